-- What search doesn't prove of `add`: the clause `keyed`, by lemmas of `Keyed`.
use Rattle.std.proofs.Common.{List, subst, sym}
use Rattle.dir_entry.specs.Entry.{KeyedAttribute, IsKeyedBy}
use Rattle.dir_entry.proofs.Keyed.{keyed_push}
use Rattle.dir_entry.proofs.entry.Entry.add.Goals as goal

pub returns-clause-keyed : goal.returns-clause-keyed
returns-clause-keyed c = λ k.
    subst (λ (x : List KeyedAttribute). IsKeyedBy c.args.schema.now x) (sym c.in_ok-push.ensures.items)
    (keyed_push c.args.schema.now c.self.inside.attributes.items c.in_ok-attribute.attribute
    c.in_ok-attribute.ensures.keyed (subst (λ (x : List KeyedAttribute). IsKeyedBy c.args.schema.now x)
    (sym c.self.view_is) k))
