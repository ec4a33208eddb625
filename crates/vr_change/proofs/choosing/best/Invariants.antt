use Rattle.std.proofs.Common.{◌≡◌, option_copied, drop}
use Rattle.vr_state.specs.Outcome.{indices}
use Rattle.vr_state.specs.ViewChange.{best}
use Rattle.vr_change.proofs.choosing.best.Given as goal

-- so far it is the best of those from this one on
abbrev pub invariant-loop-sender : goal.invariant-loop-sender
invariant-loop-sender g l = option_copied l.best ≡ best l.notes (drop l.sender (indices l.count))
