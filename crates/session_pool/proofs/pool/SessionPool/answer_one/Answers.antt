-- What search doesn't prove of `answer_one`: the clause `answers`, by lemmas of `Attended`.
use Rattle.client_link.specs.session_handler.View.{config_view}
use Rattle.session_pool.proofs.Attended.{answers_under}
use Rattle.session_pool.proofs.pool.SessionPool.answer_one.Goals as goal

pub returns-clause-answers : goal.returns-clause-answers
returns-clause-answers g c =
    answers_under g.D.Directory.allows (config_view c.args.self.now.config) c.number.result c.args.pooled.now.number
    c.number.ensures _ _ _ _ c.answer.result c.answer.ensures.answers
