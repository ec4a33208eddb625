use Rattle.std.proofs.Common.{◌≡◌, ℕ, ◌+◌, ◌-◌, vec_len}
use Rattle.index_choice.specs.Choice.{kinds_of}
use Rattle.index_choice.proofs.choosing.reach.Given as goal

abbrev pub invariant-loop-kinds : goal.invariant-loop-kinds
invariant-loop-kinds l = (t : ℕ) → kinds_of l.kinds.items t ≡ kinds_of l.initial.kinds.items t

abbrev pub decreases-loop-kinds : goal.decreases-loop-kinds
decreases-loop-kinds l = (l.number + 1) - vec_len l.kinds
