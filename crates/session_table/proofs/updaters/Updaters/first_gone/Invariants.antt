use Rattle.std.proofs.Common.{ℕ, ◌<◌}
use Rattle.session_table.specs.Posting.{posted, IsGone}
use Rattle.session_table.proofs.updaters.Updaters.first_gone.Given as goal

-- in no thread so far
abbrev pub invariant-loop-thread : goal.invariant-loop-thread
invariant-loop-thread l = (t : ℕ) → t < l.thread → IsGone (posted l.self) l.limit l.now t → ⊥
