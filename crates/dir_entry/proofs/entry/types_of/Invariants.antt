use Rattle.dir_entry.specs.private.Types.{AreTypesOf}
use Rattle.dir_entry.proofs.entry.types_of.Given as goal

abbrev pub invariant-loop-i : goal.invariant-loop-i
invariant-loop-i l = AreTypesOf l.types l.attributes
