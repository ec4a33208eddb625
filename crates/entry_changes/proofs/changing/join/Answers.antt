-- What search doesn't prove of `join`: the clause `fresh`, by lemmas of `Marked`.
use Rattle.std.proofs.Common.{Option, ap, ◌∙◌}
use Rattle.std.specs.List.{list_any}
use Rattle.dir_entry.specs.Entry.{KeyedAttribute}
use Rattle.entry_changes.specs.private.Compared.{values_held}
use Rattle.entry_changes.specs.Editing.{holds}
use Rattle.entry_changes.proofs.Marked.{none_of}
use Rattle.entry_changes.proofs.changing.join.Goals as goal

pub returns-in-None-clause-fresh : goal.returns-in-None-clause-fresh
returns-in-None-clause-fresh c =
    ap (λ (o : Option KeyedAttribute). list_any (holds c.args.schema.now c.args.given.kind (values_held o))
    c.args.given.values) c.in-None.is ∙ none_of c.args.given.values
