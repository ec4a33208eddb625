-- What search doesn't prove of `latest`: what it returns, by lemmas of `Clients`.
use Rattle.std.proofs.Common.{sym, ap, ◌∙◌}
use Rattle.std.specs.Option.{option_map}
use Rattle.std.specs.FinMap as map
use Rattle.local_directory.specs.View.{kept_view}
use Rattle.local_directory.proofs.Clients.{get_client, seen_copied}
use Rattle.local_directory.proofs.client_table.ClientTable.latest.Goals as goal

pub returns : goal.returns
returns c =
    seen_copied c.get.result ∙ ap (option_map kept_view) c.get.ensures.value
    ∙ sym (get_client c.self.inside.latest.entries c.args.client)
    ∙ ap (λ m. map.get m c.args.client) c.self.view_is
