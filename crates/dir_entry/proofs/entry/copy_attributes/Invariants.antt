use Rattle.std.proofs.Common.{◌≡◌, ◌++◌, drop}
use Rattle.dir_entry.proofs.entry.copy_attributes.Given as goal

abbrev pub invariant-loop-attribute : goal.invariant-loop-attribute
invariant-loop-attribute l = l.copy.items ++ drop l.attribute-index l.attributes ≡ l.attributes
