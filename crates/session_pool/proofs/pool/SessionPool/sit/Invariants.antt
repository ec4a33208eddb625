use Rattle.client_link.specs.session_handler.View.{config_view}
use Rattle.session_pool.specs.Sittings.{HasAttendedSome}
use Rattle.session_pool.proofs.pool.SessionPool.sit.Given as goal

-- the sessions so far were attended to
abbrev pub invariant-loop : goal.invariant-loop
invariant-loop g l = HasAttendedSome g.D.Directory.allows (config_view l.self.config) l.fn.directory l.directory
