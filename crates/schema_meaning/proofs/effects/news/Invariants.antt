use Rattle.std.proofs.Common.{ℕ, ◌<◌, ◌≡◌, None}
use Rattle.schema_meaning.specs.private.Settling.{new_effect}
use Rattle.schema_meaning.proofs.effects.news.Given as goal

abbrev pub invariant-loop-number : goal.invariant-loop-number
invariant-loop-number l = (t : ℕ) → t < l.number → new_effect l.types l.table t ≡ None
