use Rattle.client_link.specs.session_handler.View.{config_view}
use Rattle.session_table.specs.Attending.{IsSame}
use Rattle.session_pool.specs.Sittings.{HasUpdatedSome}
use Rattle.session_pool.proofs.pool.SessionPool.attend_updates.Given as goal

-- it is the same session, and the updates so far were made
abbrev pub invariant-loop-update : goal.invariant-loop-update
invariant-loop-update g l = record {
  same : IsSame l.fn.pooled l.pooled;
  updated : HasUpdatedSome g.D.Directory.allows (config_view l.self.config) l.fn.directory l.directory;
}
