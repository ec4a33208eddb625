-- What search doesn't prove of `refuse_update`: the clause `refused`, by lemmas of `Attended`.
use Rattle.client_link.specs.session_handler.View.{config_view}
use Rattle.session_pool.specs.Refusing.{finds_out}
use Rattle.session_pool.proofs.Attended.{answers_under}
use Rattle.session_pool.proofs.pool.SessionPool.refuse_update.Goals as goal

pub returns-clause-refused : goal.returns-clause-refused
returns-clause-refused g c = record {
  before = _;
  after = c.answer.new.directory;
  answers = answers_under finds_out (config_view c.args.self.now.config) c.number.result c.args.pooled.now.number
      c.number.ensures _ _ _ _ c.answer.result c.answer.ensures.answers;
}
