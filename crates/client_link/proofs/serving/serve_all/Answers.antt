-- What search doesn't prove of `serve_all`: the clause `served`, by lemmas of `Jobs`.
use Rattle.ldap_session.specs.session_handler.View.{config_view}
use Rattle.client_link.specs.Served.{HasServedSome}
use Rattle.client_link.proofs.Jobs.{each_gives, if_ok}
use Rattle.client_link.proofs.serving.serve_all.Goals as goal

pub returns-clause-served : goal.returns-clause-served
returns-clause-served g c =
    if_ok _ _
    (λ after jobs k d below. each_gives _ _ (HasServedSome g.D.Directory.allows (config_view c.args.config.now))
    c.args.directories.items after.items jobs (λ job r met. met) k d d below)
    c.map_vec.result c.map_vec.ensures.each
