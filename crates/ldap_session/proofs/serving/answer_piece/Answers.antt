-- What search doesn't prove of `answer_piece`: the clause `fed`, by lemmas of `Served`.
use Rattle.session_handler.specs.View.{config_view}
use Rattle.ldap_session.specs.View.{conversation_view}
use Rattle.ldap_session.proofs.Served.{not_fed, fed}
use Rattle.ldap_session.proofs.serving.answer_piece.Goals as goal

pub returns-in-Ok-clause-fed : goal.returns-in-Ok-clause-fed
returns-in-Ok-clause-fed g c =
    fed g.D.Directory.allows (config_view c.args.config.now) c.args.directory.now c.answer_ready-flow.new.directory
    (conversation_view c.args.conversation.now).session (conversation_view c.hear.new.self).session
    (conversation_view c.answer_ready-flow.new.conversation).session c.args.piece.now
    (g.W.Write.contents c.args.writer.now) (g.W.Write.contents c.answer_ready-flow.new.writer)
    (g.W.Write.contents c.flushed.new.writer)
    c.answer_ready-flow.result c.flushed.result c.in-Ok.ensures.ok.stream c.in-Ok.ensures.ok.state
    c.answer_ready-flow.ensures.worked c.flushed.ensures

pub returns-in-Err-clause-fed : goal.returns-in-Err-clause-fed
returns-in-Err-clause-fed g c =
    not_fed g.D.Directory.allows (config_view c.args.config.now) c.args.directory.now
    (conversation_view c.args.conversation.now).session (conversation_view c.hear.new.self).session
    c.args.piece.now (g.W.Write.contents c.args.writer.now)
