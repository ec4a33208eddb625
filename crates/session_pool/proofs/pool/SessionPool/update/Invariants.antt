use Rattle.client_link.specs.session_handler.View.{config_view}
use Rattle.session_pool.specs.Sittings.{HasUpdatedSome}
use Rattle.session_pool.proofs.pool.SessionPool.update.Given as goal

-- the messages so far were answered
abbrev pub invariant-loop : goal.invariant-loop
invariant-loop g l = HasUpdatedSome g.D.Directory.allows (config_view l.self.config) l.fn.directory l.directory
