use Rattle.schema_meaning.specs.private.Settling.{Knows}
use Rattle.schema_meaning.proofs.Reaching.{lacking}
use Rattle.schema_meaning.proofs.effects.note_news.Given as goal

abbrev pub invariant-loop-number : goal.invariant-loop-number
invariant-loop-number l = Knows l.types l.table.items

abbrev pub decreases-loop-number : goal.decreases-loop-number
decreases-loop-number l = lacking l.table.items
