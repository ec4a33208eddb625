-- What search doesn't prove of `delete_attribute`: the clause `keyed`, step by step.
use Rattle.std.proofs.Common.{List, sym, subst}
use Rattle.dir_entry.specs.Entry.{KeyedAttribute, IsKeyedBy}
use Rattle.entry_changes.proofs.changing.delete_attribute.Goals as goal

pub returns-clause-keyed : goal.returns-clause-keyed
returns-clause-keyed c = λ s h.
    subst (λ (e : List KeyedAttribute). IsKeyedBy s e) (sym c.from_attributes.ensures)
    (c.take_attribute-attribute.ensures.keyed s (subst (λ (e : List KeyedAttribute). IsKeyedBy s e)
    (sym c.into_attributes.ensures) h))
