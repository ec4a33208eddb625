-- What search doesn't prove of `answer_piece`: the clause `ok` and the clause `err`, by lemmas of `Worked`.
use Rattle.ldap_session.specs.session_handler.View.{config_view}
use Rattle.ldap_session.specs.View.{session_view}
use Rattle.local_directory.proofs.Worked.{fed_if, not_flushed_if, fed_failed, not_fed}
use Rattle.local_directory.proofs.answering.AnswerContext.answer_piece.Goals as goal

pub returns-in-Ok-answer_ready-clause-ok : goal.returns-in-Ok-answer_ready-clause-ok
returns-in-Ok-answer_ready-clause-ok g c =
    fed_if g.D.Directory.allows (config_view c.args.self.now.config) c.args.directory.now c.answer_ready.new.directory
    (session_view c.args.session.now) (session_view c.feed.new.self) (session_view c.answer_ready.new.session)
    c.args.piece.now
    (g.W.Write.contents c.args.output.now) (g.W.Write.contents c.answer_ready.new.output)
    (g.W.Write.contents c.flush_output.new.output)
    c.in-Ok-answer_ready.next c.flush_output.result c.in-Ok.ensures.stream c.feed.ensures.state
    c.in-Ok-answer_ready.ensures.ok c.flush_output.ensures.ok

pub returns-in-Ok-answer_ready-clause-err : goal.returns-in-Ok-answer_ready-clause-err
returns-in-Ok-answer_ready-clause-err g c =
    not_flushed_if g.D.Directory.allows (config_view c.args.self.now.config) c.args.directory.now
    c.answer_ready.new.directory
    (session_view c.args.session.now) (session_view c.feed.new.self) (session_view c.answer_ready.new.session)
    c.args.piece.now
    (g.W.Write.contents c.args.output.now) (g.W.Write.contents c.answer_ready.new.output)
    (g.W.Write.contents c.flush_output.new.output)
    c.in-Ok-answer_ready.next c.flush_output.result c.in-Ok.ensures.stream c.feed.ensures.state
    c.in-Ok-answer_ready.ensures.ok c.flush_output.ensures.err

pub returns-in-Err-answer_ready-clause-err : goal.returns-in-Err-answer_ready-clause-err
returns-in-Err-answer_ready-clause-err g c =
    fed_failed g.D.Directory.allows (config_view c.args.self.now.config) c.args.directory.now
    c.answer_ready.new.directory
    (session_view c.args.session.now) (session_view c.feed.new.self) c.args.piece.now
    (g.W.Write.contents c.args.output.now) (g.W.Write.contents c.answer_ready.new.output)
    c.in-Err-answer_ready.fault
    c.in-Ok.ensures.stream c.feed.ensures.state c.in-Err-answer_ready.ensures.err

pub returns-in-Err-clause-err : goal.returns-in-Err-clause-err
returns-in-Err-clause-err g c = not_fed g.D.Directory.allows (config_view c.args.self.now.config) c.args.directory.now
    (session_view c.args.session.now) c.args.piece.now (g.W.Write.contents c.args.output.now)
