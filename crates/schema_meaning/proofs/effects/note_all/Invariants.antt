use Rattle.schema_meaning.specs.private.Settling.{Knows}
use Rattle.schema_meaning.proofs.effects.note_all.Given as goal

abbrev pub invariant-loop-number : goal.invariant-loop-number
invariant-loop-number l = Knows l.types l.table.items
