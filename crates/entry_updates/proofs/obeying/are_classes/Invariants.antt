use Rattle.std.proofs.Common.{◌≡◌}
use Rattle.entry_updates.specs.Classes.{are_classes}
use Rattle.entry_updates.proofs.obeying.are_classes.Given as goal

abbrev pub invariant-loop-part : goal.invariant-loop-part
invariant-loop-part l = are_classes l.schema l.rest.values ≡ are_classes l.schema l.attribute.values

abbrev pub decreases-loop-part : goal.decreases-loop-part
decreases-loop-part l = l.rest.count
