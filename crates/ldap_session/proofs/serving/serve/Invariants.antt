use Rattle.session_handler.specs.View.{config_view}
use Rattle.ldap_session.specs.View.{conversation_view}
use Rattle.ldap_session.specs.private.Steps.{IsAllSent}
use Rattle.ldap_session.proofs.Served.{Going}
use Rattle.ldap_session.proofs.serving.serve.Given as goal

-- the pieces so far are answered, and what they are answered with is written
abbrev pub invariant-loop : goal.invariant-loop
invariant-loop g l =
    Going g.D.Directory.allows (config_view l.fn.config) l.fn.directory l.directory
    (conversation_view l.conversation).session (g.R.Read.remaining l.fn.reader) (g.R.Read.remaining l.reader)
    (g.W.Write.contents l.fn.writer) (g.W.Write.contents l.writer) × IsAllSent (conversation_view l.conversation)
