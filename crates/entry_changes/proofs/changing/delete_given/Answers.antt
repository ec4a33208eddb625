-- What search doesn't prove of `delete_given`: the clause `refused`, the clause `ok` and the clause `keyed`, by lemmas
-- of `Edited`.
use Rattle.std.proofs.Common.{ℕ, List, Vec, Global, Ok, Err, map, refl, ap, sym, subst, ◌≡◌, ◌∙◌}
use Rattle.std.proofs.lemmas.Result.{IfErr-weaker, IfOk-weaker}
use Rattle.dir_entry.specs.Entry.{AttributeModel, KeyedAttribute, attributes_of, IsKeyedBy}
use Rattle.entry_changes.specs.private.Compared.{values_held}
use Rattle.entry_changes.specs.Editing.{without_values}
use Rattle.dir_entry.specs.Adding.{Refuses}
use Rattle.entry_changes.proofs.Edited.{deleted, not_deleted, none_held, both_ok}
use Rattle.entry_changes.proofs.changing.delete_given.Goals as goal

pub returns-in-None-clause-refused : goal.returns-in-None-clause-refused
returns-in-None-clause-refused c =
    subst (λ (x : List KeyedAttribute). without_values c.args.schema.now c.args.type_id
    (map (λ (v : Vec ℕ Global). v.items) c.args.values.items) (attributes_of x) ≡ Err 16) c.into_attributes.ensures
    (none_held c.args.schema.now c.args.type_id (map (λ (v : Vec ℕ Global). v.items) c.args.values.items)
    (attributes_of c.into_attributes.result.items) c.take_attribute-place.result.attribute
    c.in_ok-given.ensures.valid c.requires.some
    c.in-None.is c.take_attribute-place.ensures.values)

pub returns-clause-ok : goal.returns-clause-ok
returns-clause-ok c =
    both_ok _ _ _ c.put_left.result c.put_left.ensures.held c.put_left.ensures.shown
    (λ e all shown.
    subst (λ (x : List KeyedAttribute). without_values c.args.schema.now c.args.type_id
    (map (λ (v : Vec ℕ Global). v.items) c.args.values.items) (attributes_of x) ≡ Ok (attributes_of e))
    c.into_attributes.ensures
    (deleted c.args.schema.now c.args.type_id c.take_attribute-place.result.place (map (λ (v : Vec ℕ Global). v.items)
    c.args.values.items) (attributes_of c.into_attributes.result.items)
    (attributes_of c.take_attribute-place.result.others.items)
    (attributes_of e) c.in-Some.held.kind c.in-Some.held.values _ c.in_ok-given.given.values
    c.in_ok-given.ensures.valid all
    (sym (ap values_held c.in-Some.is) ∙ c.take_attribute-place.ensures.values) refl
    (ap (λ (a : AttributeModel). a.values) c.in_ok-given.ensures.shown)
    (c.take_attribute-place.ensures.kind c.in-Some.held c.in-Some.is) c.take_attribute-place.ensures.place
    c.take_attribute-place.ensures.others shown))

pub returns-clause-keyed : goal.returns-clause-keyed
returns-clause-keyed c = IfOk-weaker c.put_left.result _ _
    (λ e h. h (c.take_attribute-place.ensures.keyed c.args.schema.now
    (subst (λ (x : List KeyedAttribute). IsKeyedBy c.args.schema.now x) (sym c.into_attributes.ensures)
    c.requires.keyed))) c.put_left.ensures.keyed

pub returns-clause-refused : goal.returns-clause-refused
returns-clause-refused c =
    IfErr-weaker c.put_left.result _ _
    (λ e h.
    subst (λ (x : List KeyedAttribute). Refuses e (without_values c.args.schema.now c.args.type_id
    (map (λ (v : Vec ℕ Global). v.items) c.args.values.items) (attributes_of x))) c.into_attributes.ensures
    (not_deleted c.args.schema.now c.args.type_id (map (λ (v : Vec ℕ Global). v.items) c.args.values.items)
    (attributes_of c.into_attributes.result.items) c.in-Some.held.kind c.in-Some.held.values
    c.in_ok-given.given.values e
    c.in_ok-given.ensures.valid (sym (ap values_held c.in-Some.is) ∙ c.take_attribute-place.ensures.values)
    (ap (λ (a : AttributeModel). a.values) c.in_ok-given.ensures.shown)
    (c.take_attribute-place.ensures.kind c.in-Some.held c.in-Some.is) h))
    c.put_left.ensures.refused
