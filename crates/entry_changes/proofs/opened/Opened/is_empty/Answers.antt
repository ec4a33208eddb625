-- What search doesn't prove of `is_empty`: what it returns, by lemmas of `Indexing`.
use Rattle.std.proofs.Common.{Option, ap, sym, subst, ◌∙◌}
use Rattle.dir_entry.specs.Entry.{KeyedAttribute}
use Rattle.entry_changes.specs.Editing.{is_empty}
use Rattle.entry_changes.specs.Opening.{seen}
use Rattle.entry_changes.specs.private.Opening.{FitsIn}
use Rattle.entry_changes.specs.declared.index.Index.{Index}
use Rattle.entry_changes.proofs.Indexing.{none_left}
use Rattle.entry_changes.proofs.opened.Opened.is_empty.Goals as goal

pub returns-in-Some : goal.returns-in-Some
returns-in-Some c =
    none_left c.in-Some.index.by_keys c.self.inside.attribute c.in-Some.index.held.entries c.is_empty.result
    c.is_empty.ensures.0 c.is_empty.ensures.1 (subst (λ (o : Option Index). FitsIn c.self.inside.attribute o)
    c.in-Some.is c.self.invariant)
    ∙ ap (λ (o : Option Index). is_empty (seen c.self.inside.attribute o).values) (sym c.in-Some.is)
    ∙ ap (λ (a : KeyedAttribute). is_empty a.values) c.self.view_is
