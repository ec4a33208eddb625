use Rattle.std.proofs.Common.{◌≡◌, length}
use Rattle.vr_state.specs.Outcome.{others}
use Rattle.vr_state.specs.NormalCase.{reached}
use Rattle.vr_normal.proofs.acknowledgements.reached.Given as goal

-- so far it is the most of those below this one
abbrev pub invariant-loop-other : goal.invariant-loop-other
invariant-loop-other l = l.most ≡ reached l.half l.acknowledged (others (length l.acknowledged) l.index)
    (others l.other l.index)
