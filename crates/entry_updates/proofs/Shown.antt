-- Tests on attributes with their keys, as tests without them.
use Rattle.std.proofs.Common.{ℕ, List, [], ◌∷◌, Bool, ◌&&◌, nat_eq, Option, Some, ◌≡◌, refl, ap, map}
use Rattle.std.specs.List.{list_all, list_any}
use Rattle.dir_entry.specs.ldap_schema.Schema.{SchemaModel}
use Rattle.dir_entry.specs.ldap_schema.ObjectClassType.{object_class_type}
use Rattle.dir_entry.specs.Entry.{AttributeModel, KeyedAttribute, shown, attributes_of}
use Rattle.dir_entry.specs.Adding.{has_type}
use Rattle.entry_updates.specs.Classes.{has_single_value, has_single_values, is_allowed, is_object_class}
use Rattle.std.specs.Option.{option_eq}

pub all_of_map : {A B : Type 0} (p : B → Bool) (f : A → B) (xs : List A) → list_all p (map f xs) ≡
    list_all (λ x. p (f x)) xs
all_of_map p f [] = refl
all_of_map p f (x ∷ xs) = ap (λ (b : Bool). p (f x) && b) (all_of_map p f xs)

pub single_shown : (s : SchemaModel) (e : List KeyedAttribute) → has_single_values s (attributes_of e) ≡
    list_all (λ a. has_single_value s (shown a)) e
single_shown s e = all_of_map (has_single_value s) shown e

pub allowed_shown : (s : SchemaModel) (cs : List ℕ) (e : List KeyedAttribute) → list_all (λ a. is_allowed s cs a.kind)
    (attributes_of e) ≡ list_all (λ a. is_allowed s cs a.kind) e
allowed_shown s cs e = all_of_map (λ (a : AttributeModel). is_allowed s cs a.kind) shown e

pub classed_by : (o : Option ℕ) (t : ℕ) (e : List KeyedAttribute) → o ≡ Some t →
    list_any (λ a. option_eq nat_eq (Some a.kind) o) (attributes_of e) ≡ has_type t (attributes_of e)
classed_by o t e h = ap (λ (x : Option ℕ). list_any (λ (a : AttributeModel). option_eq nat_eq (Some a.kind) x)
    (attributes_of e)) h

pub classed_shown : (s : SchemaModel) (t : ℕ) (e : List KeyedAttribute) → object_class_type s ≡ Some t →
    list_any (λ a. is_object_class s a.kind) (attributes_of e) ≡ has_type t (attributes_of e)
classed_shown s t e h = classed_by (object_class_type s) t e h
