use Rattle.client_link.specs.session_handler.View.{config_view}
use Rattle.client_link.specs.Served.{config_of}
use Rattle.session_table.specs.Attending.{talk, IsSame, Becomes}
use Rattle.session_pool.specs.Sittings.{InARowUpTo}
use Rattle.session_pool.proofs.pool.SessionPool.attend.Given as goal

-- it is the same session after sittings in a row, and what becomes of it after the last
abbrev pub invariant-loop-sitting : goal.invariant-loop-sitting
invariant-loop-sitting g l = record {
  same : IsSame l.fn.pooled l.pooled;
  sittings : InARowUpTo g.D.Directory.allows (config_of (config_view l.self.config) l.fn.pooled.number)
      (talk l.fn.pooled) (talk l.pooled) l.fn.directory l.directory
      l._sitting;
  becomes : Becomes (talk l.pooled) l.then;
}
