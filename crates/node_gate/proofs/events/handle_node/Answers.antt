use Rattle.std.proofs.Common.{[], ◌∷◌, ap}
use Rattle.node_gate.proofs.Grows.{begins, left, only_step}
use Rattle.node_gate.proofs.events.handle_node.Goals as goal

-- each end of the call leaves a beginning
pub returns-clause-begins : goal.returns-clause-begins
returns-clause-begins g c = begins (λ h. h.behind) _ _ _ _ c.handle.ensures.executed c.handle.ensures.same
    (λ h. ap (λ n. n.executed) (c.handle.ensures.no_memory h)) c.handle.ensures.halted_same
    c.handle.ensures.stops c.handle.ensures.log_stops c.handle.ensures.foreign_journal c.handle.ensures.stale_journal

pub returns-clause-refused : goal.returns-clause-refused
returns-clause-refused g c = left _ _ (c.args.event ∷ []) _ c.handle.ensures.no_memory (λ h. c.handle.ensures.halted.0
    h) c.handle.ensures.halted_same
    c.handle.ensures.stops c.handle.ensures.log_stops c.handle.ensures.foreign_journal c.handle.ensures.stale_journal
    (λ e is. only_step _ _ _ _ c.args.event (c.handle.ensures.store_late e is).0) c.handle.ensures.log_late
