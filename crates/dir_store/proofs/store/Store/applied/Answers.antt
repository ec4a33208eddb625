-- What search doesn't prove of `applied`: the clause `below`, by lemmas of `Below`.
use Rattle.std.proofs.Common.{ap}
use Rattle.entry_updates.specs.ldap_op.View.{update_view}
use Rattle.indexed_tree.specs.Listed.{StoreModel}
use Rattle.dir_store.proofs.Below.{below_updated, below_kept}
use Rattle.dir_store.proofs.store.Store.applied.Goals as goal

pub returns-in-Made-clause-below : goal.returns-in-Made-clause-below
returns-in-Made-clause-below c =
    let made = rw c.in-Made.is at c.in_ok-store.ensures in
    below_updated c.args.self.directory c.args.number (update_view c.update.result.now)
    c.in-Made.store.directory.entries c.requires.above made.0

pub returns-clause-below : goal.returns-clause-below
returns-clause-below c =
    let refused = rw c.in-Refused.is at c.in_ok-store.ensures in
    below_kept c.args.self.directory c.in-Refused.store.directory c.args.number c.requires.above
    (ap (λ (s : StoreModel). s.directory) refused.0)
