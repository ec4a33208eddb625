-- What search doesn't prove of `replace`: what `unreachable` requires and what it returns, by lemmas of `Clients`.
use Rattle.std.proofs.Common.{ap, ◌∙◌}
use Rattle.std.specs.FinMap as map
use Rattle.local_directory.specs.View.{kept_view}
use Rattle.local_directory.proofs.Clients.{one_kept, none_there}
use Rattle.local_directory.proofs.client_table.ClientTable.replace.Goals as goal

pub unreachable-requires : goal.unreachable-requires
unreachable-requires c =
    none_there c.self.inside.latest.entries c.args.self.now c.args.client c.self.view_is c.in-Err.ensures.absent
    c.requires.there

pub returns : goal.returns
returns c =
    one_kept c.self.inside.latest.entries c.insert.new.self.entries c.args.client c.args.kept c.in-Ok.ensures.updates.0
    ∙ ap (λ m. map.insert m c.args.client (kept_view c.args.kept)) c.self.view_is
