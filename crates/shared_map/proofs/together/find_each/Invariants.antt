use Rattle.std.proofs.Common.{◌≡◌, ◌++◌, drop, map}
use Rattle.std.specs.Prelude.{option_copied}
use Rattle.shared_map.proofs.together.find_each.Given as goal

abbrev pub invariant-loop-level : goal.invariant-loop-level
invariant-loop-level g l = l.ways.items ≡ l.initial.ways.items

abbrev pub invariant-loop-way : goal.invariant-loop-way
invariant-loop-way g l = map option_copied l.found.items ++ drop l.way-index l.way-items ≡ l.way-items
