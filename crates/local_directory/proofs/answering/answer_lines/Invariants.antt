use Rattle.ldap_session.specs.session_handler.View.{config_view}
use Rattle.ldap_session.specs.View.{session_view}
use Rattle.local_directory.proofs.Reading.{LinesSoFar}
use Rattle.local_directory.proofs.answering.answer_lines.Given as goal

-- the lines so far are answered
abbrev pub invariant-loop-number : goal.invariant-loop-number
invariant-loop-number g l =
    LinesSoFar g.D.Directory.allows (config_view l.fn.config) l.fn.directory l.directory (session_view l.session)
    (g.R.Read.remaining l.fn.input) (g.R.Read.remaining l.input) (g.W.Write.contents l.fn.output)
    (g.W.Write.contents l.output) l.number
