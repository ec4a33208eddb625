-- What search doesn't prove of `take_attribute`: the clause `others`, the clause `keyed`, the clause `kind`, the clause
-- `keys` and others, by lemmas of `Placed`.
use Rattle.std.proofs.Common.{ap, sym, subst, ◌∙◌}
use Rattle.dir_entry.specs.Entry.{attributes_of, IsKeyedBy}
use Rattle.entry_changes.proofs.Placed.{others_shown, keyed_others, kind_there, keys_there, values_at, there}
use Rattle.entry_changes.proofs.placing.take_attribute.Goals as goal

pub returns-clause-others : goal.returns-clause-others
returns-clause-others c = ap attributes_of c.take_at_place.ensures.others ∙ others_shown c.take_at_place.result.place
    c.args.attributes.items

pub returns-clause-keyed : goal.returns-clause-keyed
returns-clause-keyed c = λ s h. subst (IsKeyedBy s) (sym c.take_at_place.ensures.others)
    (keyed_others s c.take_at_place.result.place c.args.attributes.items h)

pub returns-clause-kind : goal.returns-clause-kind
returns-clause-kind c = kind_there c.args.type_id c.args.attributes.items c.take_at_place.result.place
    c.take_at_place.result.attribute c.take_at_place.ensures.place c.take_at_place.ensures.attribute

pub returns-clause-keys : goal.returns-clause-keys
returns-clause-keys c = λ s h. keys_there s c.args.attributes.items c.take_at_place.result.place
    c.take_at_place.result.attribute c.take_at_place.ensures.attribute h

pub returns-clause-values : goal.returns-clause-values
returns-clause-values c = values_at c.args.type_id c.args.attributes.items c.take_at_place.result.place
    c.take_at_place.result.attribute c.take_at_place.ensures.place c.take_at_place.ensures.attribute

pub returns-clause-there : goal.returns-clause-there
returns-clause-there c = there c.args.type_id c.args.attributes.items c.take_at_place.result.place
    c.take_at_place.result.attribute c.take_at_place.ensures.place c.take_at_place.ensures.attribute
