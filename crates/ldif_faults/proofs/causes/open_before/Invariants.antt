use Rattle.std.proofs.Common.{◌≡◌, drop, map, nat_lt}
use Rattle.std.specs.List.{filter, last_or}
use Rattle.std.specs.Option.{option_map}
use Rattle.ldif_faults.specs.Causes.{first_line, open_before}
use Rattle.ldif_faults.proofs.causes.open_before.Given as goal

abbrev pub invariant-loop-place : goal.invariant-loop-place
invariant-loop-place l =
    last_or (option_map (λ x. x.now) l.last) (filter (λ place. nat_lt (first_line place) l.number)
    (map (λ v. v.items) (drop l.place-index l.places))) ≡ open_before (map (λ v. v.items) l.places) l.number
