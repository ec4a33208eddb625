-- LDIF, places: what the loop of `text_at` keeps.
use Rattle.std.proofs.Common.{◌≡◌, drop, nat_eq, slice_get}
use Rattle.std.specs.List.{filter}
use Rattle.ldif.proofs.placing.text_at.Given as goal

abbrev pub invariant-loop-line : goal.invariant-loop-line
invariant-loop-line l =
    slice_get (filter (λ m. nat_eq m.number l.number) (drop l.line-index l.lines)) 0 ≡
    slice_get (filter (λ m. nat_eq m.number l.number) l.lines) 0
