-- What search doesn't prove of `attribute_of`: the clause `kind`, the clause `keys` and the clause `values`, by lemmas
-- of `Placed`.
use Rattle.std.proofs.Common.{option_map}
use Rattle.entry_changes.proofs.Placed.{kind_there, keys_there, values_at}
use Rattle.entry_changes.proofs.naming.attribute_of.Goals as goal

pub returns-clause-kind : goal.returns-clause-kind
returns-clause-kind c = kind_there c.args.type_id c.args.attributes.now c.place.result
    (option_map (λ x. x.now) c.attribute_at.result) c.place.ensures c.attribute_at.ensures

pub returns-clause-keys : goal.returns-clause-keys
returns-clause-keys c = λ s h. keys_there s c.args.attributes.now c.place.result
    (option_map (λ x. x.now) c.attribute_at.result) c.attribute_at.ensures h

pub returns-clause-values : goal.returns-clause-values
returns-clause-values c = values_at c.args.type_id c.args.attributes.now c.place.result
    (option_map (λ x. x.now) c.attribute_at.result) c.place.ensures c.attribute_at.ensures
