-- Names of classes as values of objectClass.
use Rattle.std.proofs.Common.{ℕ, ◌+◌, suc, List, [], ◌∷◌, Bool, true, false, cond, ◌&&◌, Option, None, Some, is_some, option_map, ◌≡◌, refl, ap, sym, ◌∙◌, map, arith}
use Rattle.std.specs.List.{list_all, position_from, slice_get}
use Rattle.std.specs.Option.{option_and_then}
use Rattle.dir_entry.specs.ldap_words.Identifiers.{is_numericoid}
use Rattle.dir_entry.specs.ldap_words.declared.rule.Rule.{Rule}
use Rattle.dir_entry.specs.ldap_schema.Schema.{SchemaModel, TypeModel, ClassModel, find, class_named}
use Rattle.dir_entry.specs.ldap_schema.ObjectClassType.{IsObjectClassType}
use Rattle.dir_entry.specs.ldap_dn.Meaning.{type_or_class_oid, named_oid, dotted, identified}
use Rattle.dir_entry.specs.ldap_match.Item.{is_of_rule, is_of_type, is_of_syntax}
use Rattle.dir_entry.specs.Entry.{are_in_syntax}

some_same : {A : Type 0} (o : Option A) → is_some o ≡ true → (x : A) × (o ≡ Some x)
some_same None h = absurd (cc)
some_same (Some x) h = (x, refl)

-- what is found stands in the list, so many places after the number that it begins with
found_by : {K : Type 0} (p : K → Bool) (k j : ℕ) (x : K) (xs : List K) (b : Bool) → p x ≡ b →
    position_from p k (x ∷ xs) ≡ Some j
    → (position_from p (k + 1) xs ≡ Some j → (i : ℕ) × (j ≡ k + 1 + i) × (is_some (slice_get xs i) ≡ true)) → (i : ℕ)
    × (j ≡ k + i) × (is_some (slice_get (x ∷ xs) i) ≡ true)
found_by p k j x xs true e h further =
    let same : Some k ≡ Some j = sym (ap (λ (z : Bool). cond z (Some k) (position_from p (k + 1) xs)) e) ∙ h in
    let number : k ≡ j = cc in (0, omega arith, refl)
found_by p k j x xs false e h further =
    let f = further (sym (ap (λ (z : Bool). cond z (Some k) (position_from p (k + 1) xs)) e) ∙ h) in
    let number : j ≡ k + 1 + f.0 = f.1 in (suc f.0, omega arith, f.2)

found_in : {K : Type 0} (p : K → Bool) (k j : ℕ) (xs : List K) → position_from p k xs ≡ Some j → (i : ℕ) × (j ≡ k + i)
    × (is_some (slice_get xs i) ≡ true)
found_in p k j [] h = absurd (cc)
found_in p k j (x ∷ xs) h = found_by p k j x xs (p x) refl h (found_in p (k + 1) j xs)

found_there : {K : Type 0} (p : K → Bool) (j : ℕ) (xs : List K) → position_from p 0 xs ≡ Some j →
    is_some (slice_get xs j) ≡ true
found_there p j xs h =
    let f = found_in p 0 j xs h in
    let number : j ≡ 0 + f.0 = f.1 in
    let same : j ≡ f.0 = omega arith in ap (λ (n : ℕ). is_some (slice_get xs n)) same ∙ f.2

type_there : (o : Option TypeModel) → is_some o ≡ true → is_some (option_map (λ (t : TypeModel). t.oid) o) ≡ true
type_there None h = h
type_there (Some t) h = refl

class_there : (o : Option ClassModel) → is_some o ≡ true → is_some (option_map (λ (c : ClassModel). c.oid) o) ≡ true
class_there None h = h
class_there (Some c) h = refl

class_of : (s : SchemaModel) (o : Option ℕ) (v : List ℕ) → class_named s v ≡ o → is_some o ≡ true →
    is_some (option_and_then (λ (c : ℕ). option_map (λ (d : ClassModel). d.oid) (slice_get s.classes c)) o) ≡ true
class_of s None v e h = h
class_of s (Some c) v e h = class_there (slice_get s.classes c) (found_there _ c s.classes e)

by_type : (s : SchemaModel) (v : List ℕ) (o : Option ℕ) → find s v ≡ o → is_some (class_named s v) ≡ true →
    is_some (type_or_class_oid s v o) ≡ true
by_type s v None e h = class_of s (class_named s v) v refl h
by_type s v (Some t) e h = type_there (slice_get s.types t) (found_there _ t s.types e)

by_form : (s : SchemaModel) (v : List ℕ) (b : Bool) → is_some (class_named s v) ≡ true →
    is_some (cond b (Some v) (named_oid s v)) ≡ true
by_form s v true h = refl
by_form s v false h = by_type s v (find s v) refl h

identified_some : (o : Option (List ℕ)) → is_some o ≡ true → is_some (identified o) ≡ true
identified_some None h = h
identified_some (Some x) h = refl

class_in_syntax : (s : SchemaModel) (t : ℕ) (v : List ℕ) → IsObjectClassType s t → is_some (class_named s v) ≡ true →
    is_of_syntax s t v ≡ true
class_in_syntax s t v oc h =
    ap (λ (o : Option TypeModel). is_of_type s o v) oc.is
    ∙ ap (λ (r : Option Rule). is_of_rule s oc.description.syntax r v) oc.rule
    ∙ identified_some (dotted s v) (by_form s v (is_numericoid v) h)

and_both : (a b : Bool) → (a && b) ≡ true → (a ≡ true) × (b ≡ true)
and_both true b h = (refl, h)
and_both false b h = absurd (cc)

both_and : (a b : Bool) → a ≡ true → b ≡ true → (a && b) ≡ true
both_and true b h k = k
both_and false b h k = h

pub classes_in_syntax : {A : Type 0} (s : SchemaModel) (t : ℕ) (items : A → List ℕ) (vs : List A) →
    IsObjectClassType s t → list_all (λ v. is_some (class_named s (items v))) vs ≡ true →
    are_in_syntax s t (map items vs) ≡ true
classes_in_syntax s t items [] oc h = refl
classes_in_syntax s t items (v ∷ vs) oc h =
    let p = and_both _ _ h in both_and _ _ (class_in_syntax s t (items v) oc p.0) (classes_in_syntax s t items vs oc
    p.1)
