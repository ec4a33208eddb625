-- What search doesn't prove of `add_values`: what `join` requires, the clause `refused`, the clause `ok` and the clause
-- `keyed`, by lemmas of `Edited`.
use Rattle.std.proofs.Common.{ℕ, List, false, length, Vec, Global, Ok, map, ap, sym, subst, ◌≡◌, ◌∙◌}
use Rattle.dir_entry.specs.Entry.{AttributeModel, KeyedAttribute, attributes_of, IsKeyedBy}
use Rattle.dir_entry.specs.Adding.{Refuses}
use Rattle.entry_changes.specs.private.Compared.{values_held}
use Rattle.entry_changes.specs.Editing.{is_empty, holds, with_added}
use Rattle.std.specs.List.{list_any}
use Rattle.std.specs.Bool.{◌==◌}
use Rattle.std.proofs.lemmas.Result.{err_from_is_err_and}
use Rattle.entry_changes.proofs.Edited.{added, not_added, some_given, handed_on}
use Rattle.entry_changes.proofs.changing.add_values.Goals as goal

pub join-requires-clause-kind : goal.join-requires-clause-kind
join-requires-clause-kind c = λ a h. c.take_attribute-place.ensures.kind a h
    ∙ sym (ap (λ (b : AttributeModel). b.kind) c.in_ok-given.ensures.shown)

pub join-requires-clause-held : goal.join-requires-clause-held
join-requires-clause-held c = λ a h.
    c.take_attribute-place.ensures.keys c.args.schema.now
    (subst (λ (e : List KeyedAttribute). IsKeyedBy c.args.schema.now e) (sym c.into_attributes.ensures)
    c.requires) a h

given_some : {A : Type 0} (items : A → List ℕ) (vs ws : List A) → vs ≡ ws → false ≡ (length vs == 0) →
    is_empty (map items ws) ≡ false
given_some items vs ws e h = ap (λ (x : List _). is_empty (map items x)) (sym e) ∙ some_given items vs h

pub returns-in_err-joined-clause-refused : goal.returns-in_err-joined-clause-refused
returns-in_err-joined-clause-refused c =
    let p = err_from_is_err_and c.from_residual-in_err-joined.result c.from_residual-in_err-joined.ensures.1 in
    handed_on (λ e. Refuses e (with_added c.args.schema.now c.args.type_id (map (λ (v : Vec ℕ Global). v.items)
    c.args.values.items) (attributes_of c.args.entry))) c.from_residual-in_err-joined.result p.0
    c.in_err-joined.field-0.0 p.1 p.2
    (subst (λ (e : List KeyedAttribute). Refuses c.in_err-joined.field-0.0
    (with_added c.args.schema.now c.args.type_id (map (λ (v : Vec ℕ Global). v.items) c.args.values.items)
    (attributes_of e))) c.into_attributes.ensures
    (not_added c.args.schema.now c.args.type_id (map (λ (v : Vec ℕ Global). v.items) c.args.values.items)
    (attributes_of c.into_attributes.result.items) c.in_ok-given.given.kind
    (values_held c.take_attribute-place.result.attribute)
    c.in_ok-given.given.values c.in_err-joined.field-0.0 (given_some (λ (v : Vec ℕ Global). v.items)
    c.as_slice.result.now c.args.values.items c.as_slice.ensures.value c.if-is_empty.ensures)
    c.in_ok-given.ensures.valid
    c.in_ok-given.ensures.distinct c.take_attribute-place.ensures.values (ap (λ (a : AttributeModel). a.values)
    c.in_ok-given.ensures.shown) (ap (λ (a : AttributeModel). a.kind) c.in_ok-given.ensures.shown)
    c.in_err-joined.ensures.refused))

pub returns-clause-ok : goal.returns-clause-ok
returns-clause-ok c =
    subst (λ (e : List KeyedAttribute). with_added c.args.schema.now c.args.type_id
    (map (λ (v : Vec ℕ Global). v.items) c.args.values.items) (attributes_of e) ≡
    Ok (attributes_of c.from_attributes.result)) c.into_attributes.ensures
    (added c.args.schema.now c.args.type_id c.take_attribute-place.result.place (map (λ (v : Vec ℕ Global). v.items)
    c.args.values.items) (attributes_of c.into_attributes.result.items)
    (attributes_of c.take_attribute-place.result.others.items)
    (attributes_of c.in_ok-attributes.attributes.items) c.in_ok-joined.joined.kind
    (values_held c.take_attribute-place.result.attribute) c.in_ok-joined.joined.values c.in_ok-given.given.values
    (given_some (λ (v : Vec ℕ Global). v.items) c.as_slice.result.now c.args.values.items c.as_slice.ensures.value
    c.if-is_empty.ensures) c.in_ok-given.ensures.valid c.in_ok-given.ensures.distinct
    (ap (λ (k : ℕ). list_any (holds c.args.schema.now k (values_held c.take_attribute-place.result.attribute))
    c.in_ok-given.given.values) c.in_ok-joined.ensures.kind ∙ c.in_ok-joined.ensures.fresh)
    c.take_attribute-place.ensures.values c.in_ok-joined.ensures.values (ap (λ (a : AttributeModel). a.values)
    c.in_ok-given.ensures.shown)
    (c.in_ok-joined.ensures.kind ∙ ap (λ (a : AttributeModel). a.kind) c.in_ok-given.ensures.shown)
    c.take_attribute-place.ensures.place c.take_attribute-place.ensures.others c.in_ok-attributes.ensures.shown
    ∙ ap (λ (e : List KeyedAttribute). Ok (attributes_of e)) (sym c.from_attributes.ensures))

pub returns-clause-keyed : goal.returns-clause-keyed
returns-clause-keyed c =
    subst (λ (e : List KeyedAttribute). IsKeyedBy c.args.schema.now e) (sym c.from_attributes.ensures)
    (c.in_ok-attributes.ensures.keyed c.args.schema.now (c.take_attribute-place.ensures.keyed c.args.schema.now
    (subst (λ (e : List KeyedAttribute). IsKeyedBy c.args.schema.now e) (sym c.into_attributes.ensures)
    c.requires)) c.in_ok-joined.ensures.keyed)
