use Rattle.std.proofs.Common.{ℕ, ◌<◌}
use Rattle.session_table.specs.Posting.{posted, HasPost}
use Rattle.session_table.proofs.updaters.Updaters.thread_of.Given as goal

-- in no thread so far
abbrev pub invariant-loop-thread : goal.invariant-loop-thread
invariant-loop-thread l = (t : ℕ) → t < l.thread → HasPost (posted l.self) t l.token → ⊥
