use Rattle.ldap_session.specs.session_handler.View.{config_view}
use Rattle.client_link.specs.Served.{HasServedSome}
use Rattle.client_link.proofs.serving.serve_each.Given as goal

abbrev pub invariant-loop : goal.invariant-loop
invariant-loop g l = HasServedSome g.D.Directory.allows (config_view l.fn.config) l.fn.directory l.directory
