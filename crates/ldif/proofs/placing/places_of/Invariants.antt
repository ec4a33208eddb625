-- LDIF, places: what the loop of `places_of` keeps.
use Rattle.std.proofs.Common.{◌≡◌, ◌++◌, None, drop, map, option_map}
use Rattle.ldif.specs.Placing.{places_from}
use Rattle.ldif.proofs.placing.places_of.Given as goal

abbrev pub invariant-loop-line : goal.invariant-loop-line
invariant-loop-line l =
    map (λ p. p.items) l.places.items ++ places_from (option_map (λ v. v.items) l.current)
    (drop l.line-index l.lines) ≡ places_from None l.lines
