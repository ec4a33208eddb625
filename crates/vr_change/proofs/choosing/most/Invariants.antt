use Rattle.std.proofs.Common.{◌≡◌}
use Rattle.vr_state.specs.Outcome.{indices}
use Rattle.vr_state.specs.ViewChange.{most}
use Rattle.vr_change.proofs.choosing.most.Given as goal

-- so far it is the most of those below this one
abbrev pub invariant-loop-sender : goal.invariant-loop-sender
invariant-loop-sender g l = l.most ≡ most l.notes (indices l.sender)
