use Rattle.std.proofs.Common.{◌≡◌}
use Rattle.vr_state.specs.Outcome.{indices}
use Rattle.vr_state.specs.Recovery.{latest_view}
use Rattle.vr_recover.proofs.responses.latest_view.Given as goal

-- so far it is the latest of those below this one
abbrev pub invariant-loop-sender : goal.invariant-loop-sender
invariant-loop-sender g l = l.latest ≡ latest_view l.responses (indices l.sender)
