-- What search doesn't prove of `answer_and_tell`: the clause `answers`, step by step.
use Rattle.std.proofs.Common.{sym, subst}
use Rattle.client_link.specs.session_handler.View.{config_view}
use Rattle.client_link.specs.ldap_session.View.{ConversationValue}
use Rattle.session_table.specs.Attending.{talk}
use Rattle.session_pool.specs.Answering.{Answers}
use Rattle.session_pool.proofs.pool.SessionPool.answer_and_tell.Goals as goal

pub returns-in-Some-clause-answers : goal.returns-in-Some-clause-answers
returns-in-Some-clause-answers g c =
    subst (λ (w : ConversationValue). Answers g.D.Directory.allows (config_view c.args.config.now)
    (talk c.args.pooled.now) w c.args.directory.now c.answer-step.new.directory)
    (sym c.note_bind.ensures.kept) (record { step = c.answer-step.result; continues = c.answer-step.ensures.answers })
