-- What search doesn't prove of `answer`: the clause `continues`, by lemmas of `Conversed`.
use Rattle.session_handler.specs.View.{config_view}
use Rattle.ldap_session.specs.View.{conversation_view}
use Rattle.ldap_session.proofs.Conversed.{continues}
use Rattle.ldap_session.proofs.conversation.Conversation.answer.Goals as goal

pub returns-clause-continues : goal.returns-clause-continues
returns-clause-continues g c =
    continues g.D.Directory.allows (config_view c.args.config.now) (conversation_view c.args.self.now)
    (conversation_view c.answer_unless_over.new.self)
    c.args.directory.now c.answer_unless_over.new.directory c.answer_unless_over.result
    c.answer_unless_over.ensures.step
