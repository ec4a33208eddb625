-- What search doesn't prove of `serve_each`: `loop-init` and `loop-preserved`, by lemmas of `Turns`.
use Rattle.ldap_session.specs.session_handler.View.{config_view}
use Rattle.client_link.proofs.Turns.{none_served, one_more_served}
use Rattle.client_link.proofs.serving.serve_each.Goals as goal

pub loop-init : goal.loop-init
loop-init g c = none_served g.D.Directory.allows (config_view c.args.config.now) c.args.directory

pub loop-preserved : goal.loop-preserved
loop-preserved g c =
    one_more_served g.D.Directory.allows (config_view c.args.config.now) c.args.directory c.loop.directory
    c.serve_one.new.directory _ c.loop.invariant
    c.serve_one.ensures
