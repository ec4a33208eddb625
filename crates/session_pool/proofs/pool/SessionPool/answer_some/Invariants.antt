use Rattle.client_link.specs.session_handler.View.{config_view}
use Rattle.session_table.specs.Attending.{talk, IsSame}
use Rattle.session_pool.specs.Answering.{AnswersSome}
use Rattle.session_pool.proofs.pool.SessionPool.answer_some.Given as goal

-- the messages so far are answered
abbrev pub invariant-loop-count : goal.invariant-loop-count
invariant-loop-count g l = record {
  same : IsSame l.fn.pooled l.pooled;
  answers : AnswersSome g.D.Directory.allows (config_view l.config) (talk l.fn.pooled) (talk l.pooled) l.fn.directory
      l.directory l._count;
}
