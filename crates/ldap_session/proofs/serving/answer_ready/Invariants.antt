use Rattle.std.proofs.Common.{length}
use Rattle.session_handler.specs.View.{config_view}
use Rattle.ldap_session.specs.View.{conversation_view}
use Rattle.ldap_session.specs.private.Steps.{IsAllSent}
use Rattle.ldap_session.proofs.Worked.{SoFar}
use Rattle.ldap_session.proofs.serving.answer_ready.Given as goal

-- the messages so far are answered, and what they are answered with is written
abbrev pub invariant-loop-writer : goal.invariant-loop-writer
invariant-loop-writer g l =
    SoFar g.D.Directory.allows (config_view l.fn.config) l.fn.directory l.directory
    (conversation_view l.fn.conversation).session (conversation_view l.conversation).session
    (g.W.Write.contents l.fn.writer) (g.W.Write.contents l.writer) × IsAllSent (conversation_view l.conversation)

abbrev pub decreases-loop-writer : goal.decreases-loop-writer
decreases-loop-writer g l = length (conversation_view l.conversation).session.framed.ready
