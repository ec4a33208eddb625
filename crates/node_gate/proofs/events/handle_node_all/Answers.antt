use Rattle.std.proofs.Common.{ap}
use Rattle.node_gate.proofs.Grows.{begins, left, some_of_steps}
use Rattle.node_gate.proofs.events.handle_node_all.Goals as goal

-- each end of the call leaves a beginning
pub returns-clause-begins : goal.returns-clause-begins
returns-clause-begins g c = begins (λ h. h.behind) _ _ _ _ c.handle_all.ensures.executed c.handle_all.ensures.same
    (λ h. ap (λ n. n.executed) (c.handle_all.ensures.no_memory h))
    c.handle_all.ensures.halted_same c.handle_all.ensures.stops c.handle_all.ensures.log_stops
    c.handle_all.ensures.foreign_journal c.handle_all.ensures.stale_journal

pub returns-clause-refused : goal.returns-clause-refused
returns-clause-refused g c = left _ _ c.args.events.items _ c.handle_all.ensures.no_memory
    (λ h. c.handle_all.ensures.halted.0 h) c.handle_all.ensures.halted_same
    c.handle_all.ensures.stops c.handle_all.ensures.log_stops c.handle_all.ensures.foreign_journal
    c.handle_all.ensures.stale_journal
    (λ e is. some_of_steps _ _ _ _ _ _ (c.handle_all.ensures.store_late e is).0.1) c.handle_all.ensures.log_late
