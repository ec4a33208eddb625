-- What search doesn't prove of `keep`: the clause `ok` and the clause `before`, by lemmas of `Clients`.
use Rattle.std.proofs.Common.{sym, ap, ◌∙◌}
use Rattle.std.specs.Option.{option_map}
use Rattle.std.specs.FinMap as map
use Rattle.local_directory.specs.View.{kept_view}
use Rattle.local_directory.proofs.Clients.{get_client, one_kept}
use Rattle.local_directory.proofs.client_table.ClientTable.keep.Goals as goal

pub returns-in-Ok-clause-ok : goal.returns-in-Ok-clause-ok
returns-in-Ok-clause-ok c =
    one_kept c.self.inside.latest.entries c.insert.new.self.entries c.args.client c.args.kept c.in-Ok.ensures.updates.0
    ∙ ap (λ m. map.insert m c.args.client (kept_view c.args.kept)) c.self.view_is

pub returns-in-Ok-clause-before : goal.returns-in-Ok-clause-before
returns-in-Ok-clause-before c =
    ap (option_map kept_view) c.in-Ok.ensures.old ∙ sym (get_client c.self.inside.latest.entries c.args.client)
    ∙ ap (λ m. map.get m c.args.client) c.self.view_is
