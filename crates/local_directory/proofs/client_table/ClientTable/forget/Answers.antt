-- What search doesn't prove of `forget`: what it returns, by lemmas of `Clients`.
use Rattle.std.proofs.Common.{ap, ◌∙◌}
use Rattle.std.specs.FinMap as map
use Rattle.local_directory.proofs.Clients.{one_forgotten}
use Rattle.local_directory.proofs.client_table.ClientTable.forget.Goals as goal

pub returns : goal.returns
returns c =
    one_forgotten c.self.inside.latest.entries c.remove.new.self.entries c.args.client c.remove.ensures.updates.0
    ∙ ap (λ m. map.remove m c.args.client) c.self.view_is
