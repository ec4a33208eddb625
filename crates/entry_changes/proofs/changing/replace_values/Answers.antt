-- What search doesn't prove of `replace_values`: the clause `ok` and the clause `keyed`, by lemmas of `Edited`.
use Rattle.std.proofs.Common.{ℕ, List, Vec, Global, Ok, map, ap, sym, subst, ◌≡◌, ◌∙◌}
use Rattle.dir_entry.specs.Entry.{AttributeModel, KeyedAttribute, attributes_of, IsKeyedBy}
use Rattle.dir_entry.specs.ldap_match.Keyed.{AreKeysOf}
use Rattle.entry_changes.specs.Editing.{with_replaced}
use Rattle.entry_changes.proofs.Edited.{replaced}
use Rattle.entry_changes.proofs.changing.replace_values.Goals as goal

pub returns-clause-ok : goal.returns-clause-ok
returns-clause-ok c =
    subst (λ (e : List KeyedAttribute). with_replaced c.args.schema.now c.args.type_id
    (map (λ (v : Vec ℕ Global). v.items) c.args.values.items) (attributes_of e) ≡
    Ok (attributes_of c.from_attributes.result)) c.into_attributes.ensures
    (replaced c.args.schema.now c.args.type_id c.take_attribute-place.result.place
    (map (λ (v : Vec ℕ Global). v.items) c.args.values.items) (attributes_of c.into_attributes.result.items)
    (attributes_of c.take_attribute-place.result.others.items)
    (attributes_of c.in_ok-attributes.attributes.items) c.of.result.kind c.of.result.values
    c.in_ok-given.ensures.valid c.in_ok-given.ensures.distinct
    (ap (λ (a : KeyedAttribute). a.values) c.of.ensures ∙ ap (λ (a : AttributeModel). a.values)
    c.in_ok-given.ensures.shown)
    (ap (λ (a : KeyedAttribute). a.kind) c.of.ensures ∙ ap (λ (a : AttributeModel). a.kind)
    c.in_ok-given.ensures.shown) c.take_attribute-place.ensures.place c.take_attribute-place.ensures.others
    c.in_ok-attributes.ensures.shown
    ∙ ap (λ (e : List KeyedAttribute). Ok (attributes_of e)) (sym c.from_attributes.ensures))

pub returns-clause-keyed : goal.returns-clause-keyed
returns-clause-keyed c =
    subst (λ (e : List KeyedAttribute). IsKeyedBy c.args.schema.now e) (sym c.from_attributes.ensures)
    (c.in_ok-attributes.ensures.keyed c.args.schema.now (c.take_attribute-place.ensures.keyed c.args.schema.now
    (subst (λ (e : List KeyedAttribute). IsKeyedBy c.args.schema.now e) (sym c.into_attributes.ensures)
    c.requires)) (subst (λ (a : KeyedAttribute). AreKeysOf c.args.schema.now a.kind a.values a.keys)
    (sym c.of.ensures) c.in_ok-given.ensures.keyed))
