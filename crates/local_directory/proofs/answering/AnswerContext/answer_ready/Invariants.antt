use Rattle.std.proofs.Common.{length}
use Rattle.ldap_session.specs.session_handler.View.{config_view}
use Rattle.ldap_session.specs.View.{session_view}
use Rattle.local_directory.proofs.Worked.{SoFar}
use Rattle.local_directory.proofs.answering.AnswerContext.answer_ready.Given as goal

-- the messages so far are answered
abbrev pub invariant-loop-answered : goal.invariant-loop-answered
invariant-loop-answered g l =
    SoFar g.D.Directory.allows (config_view l.fn.self.config) l.fn.directory l.directory (session_view l.fn.session)
    (session_view l.session) (g.W.Write.contents l.fn.output) (g.W.Write.contents l.output)

abbrev pub decreases-loop-answered : goal.decreases-loop-answered
decreases-loop-answered g l = length (session_view l.session).framed.ready
