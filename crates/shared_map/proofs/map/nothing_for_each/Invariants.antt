use Rattle.std.proofs.Common.{◌≡◌, ◌++◌, drop, map, None}
use Rattle.std.specs.Prelude.{option_copied}
use Rattle.shared_map.proofs.map.nothing_for_each.Given as goal

abbrev pub invariant-loop-one : goal.invariant-loop-one
invariant-loop-one g l = map option_copied l.found.items ++ map (λ q. None) (drop l._one-index l.sought) ≡
    map (λ q. None) l.sought
