-- What search doesn't prove of `answer_unless_over`: the clause `step`, by lemmas of `Kept`.
use Rattle.std.proofs.Common.{Option, Result, Ok, subst, ap, ◌∙◌}
use Rattle.session_handler.specs.View.{config_view}
use Rattle.session_handler.specs.declared.answered.Answered.{Answered}
use Rattle.session_handler.specs.request_checks.declared.fault.AnswerError.{AnswerError}
use Rattle.ldap_session.specs.View.{session_view, conversation_view}
use Rattle.ldap_session.specs.Progress.{Answers}
use Rattle.ldap_session.proofs.Kept.{kept_step}
use Rattle.ldap_session.proofs.conversation.Conversation.answer_unless_over.Goals as goal

pub returns-in-Ok-Some-clause-step : goal.returns-in-Ok-Some-clause-step
returns-in-Ok-Some-clause-step g c =
    let answers =
    subst
    (λ (r : Result (Option Answered) AnswerError).
    Answers g.D.Directory.allows (config_view c.args.config.now) (session_view c.args.self.now.session)
    (session_view c.answer.new.self) c.args.directory.now c.answer.new.directory r)
    (c.in-Ok-Some.is ∙ ap Ok c.in-Ok-Some.field-0-is) c.answer.ensures in
    λ goes. kept_step g.D.Directory.allows (config_view c.args.config.now) (conversation_view c.args.self.now)
    (conversation_view c.keep.new.self) (session_view c.answer.new.self)
    c.args.directory.now c.answer.new.directory c.in-Ok-Some.answered c.keep.result answers (c.keep.ensures goes)
