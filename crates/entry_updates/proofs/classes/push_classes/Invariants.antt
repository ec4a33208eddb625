use Rattle.std.proofs.Common.{◌≡◌, ◌++◌, drop}
use Rattle.entry_updates.specs.Classes.{classes_named}
use Rattle.entry_updates.proofs.classes.push_classes.Given as goal

abbrev pub invariant-loop-value : goal.invariant-loop-value
invariant-loop-value l = l.classes.items ++ classes_named l.schema (drop l.value-index l.values) ≡
    l.initial.classes.items ++ classes_named l.schema l.values
