use Rattle.std.proofs.Common.{◌≡◌, ◌++◌}
use Rattle.entry_updates.specs.Classes.{classes_named}
use Rattle.entry_updates.proofs.classes.classes_named.Given as goal

abbrev pub invariant-loop-part : goal.invariant-loop-part
invariant-loop-part l = l.classes.items ++ classes_named l.schema l.rest.values ≡ classes_named l.schema
    l.attribute.values

abbrev pub decreases-loop-part : goal.decreases-loop-part
decreases-loop-part l = l.rest.count
