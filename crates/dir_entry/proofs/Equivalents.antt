-- Equal keys and equivalent values.
use Rattle.std.proofs.Common.{ℕ, List, [], ◌∷◌, Bool, true, false, ◌||◌, Option, None, Some, ◌≡◌, refl, ap, ap₂, sym, subst, ◌∙◌, map, is_some}
use Rattle.std.specs.List.{list_any}
use Rattle.std.specs.Str.{bytes_eq}
use Rattle.ldap_match.specs.ldap_syntax.Meaning.{Meaning}
use Rattle.ldap_match.specs.ldap_words.declared.rule.Rule.{Rule}
use Rattle.ldap_match.specs.ldap_schema.Schema.{SchemaModel}
use Rattle.ldap_match.specs.Meaning.{meaning}
use Rattle.ldap_match.specs.ldap_schema.Rules.{equality_of}
use Rattle.ldap_match.specs.Item.{Item, equal, is_meant, equality_by, item_on_attribute}
use Rattle.ldap_match.specs.private.Item.{satisfied}
use Rattle.ldap_match.specs.Keyed.{key_at, test_by, test_for, test_value, AreKeysBy, AreKeysOf}
use Rattle.ldap_match.specs.private.Keyed.{equality_test}
use Rattle.ldap_match.specs.Truth.{truth_of}
use Rattle.ldap_match.specs.declared.truth.Truth.TheVariants.{Undefined}
use Rattle.value_parts.proofs.Flipped.{turned}
use Rattle.dir_entry.specs.Entry.{KeyedAttribute}
use Rattle.dir_entry.specs.Compared.{octets_by}
use Rattle.dir_entry.specs.Values.{is_same_meaning, is_equivalent_by, is_equivalent, has_twice, has_repeats}

-- what a test on keys says is what the item says
abbrev pub TestsAreItems : Type 0
TestsAreItems = (s : SchemaModel) (asked : Item) (t : ℕ) (values keys : List (List ℕ)) → AreKeysOf s t values keys →
    test_value (test_for s asked t) keys ≡ item_on_attribute s asked t values

decided_alike : (a b : Bool) → truth_of (a || false) ≡ truth_of (b || false) → a ≡ b
decided_alike true true h = refl
decided_alike true false h = absurd (cc)
decided_alike false true h = absurd (cc)
decided_alike false false h = refl

never_undefined : (a : Bool) → truth_of (a || false) ≡ Undefined → ⊥
never_undefined true h = cc
never_undefined false h = cc

by_meaning : (s : SchemaModel) (r : Rule) (w : List ℕ) (b : Bool) (o : Option Meaning) → truth_of (b || false) ≡
    satisfied s r o (w ∷ []) → b ≡ is_same_meaning o (meaning s r w)
by_meaning s r w b None h = absurd (never_undefined b h)
by_meaning s r w b (Some m) h = decided_alike b (is_meant m (meaning s r w)) h

one_key : (s : SchemaModel) (t : ℕ) (r : Rule) (w l : List ℕ) → equality_of s t ≡ Some r → key_at s r w ≡ Some l →
    AreKeysOf s t (w ∷ []) (l ∷ [])
one_key s t r w l e h = subst (λ (o : Option Rule). AreKeysBy s o (w ∷ []) (l ∷ [])) (sym e)
    (ap (λ (x : Option (List ℕ)). x ∷ []) h)

tested : (s : SchemaModel) (t : ℕ) (r : Rule) (v k l : List ℕ) → equality_of s t ≡ Some r → key_at s r v ≡ Some k →
    test_value (test_for s (equal v) t) (l ∷ []) ≡ truth_of (bytes_eq l k || false)
tested s t r v k l e h =
    ap (λ (o : Option Rule). test_value (test_by s o v) (l ∷ [])) e
    ∙ ap (λ (x : Option (List ℕ)). test_value (equality_test x) (l ∷ [])) h

-- two keys are equal where their values are equivalent
pub alike : TestsAreItems → (s : SchemaModel) (t : ℕ) (r : Rule) (v w k l : List ℕ) → equality_of s t ≡ Some r →
    key_at s r v ≡ Some k → key_at s r w ≡ Some l → bytes_eq k l ≡ is_equivalent s t v w
alike law s t r v w k l e hv hw =
    turned k l
    ∙ by_meaning s r w (bytes_eq l k) (meaning s r v) (sym (tested s t r v k l e hv) ∙ law s (equal v) t (w ∷ [])
    (l ∷ []) (one_key s t r w l e hw) ∙ ap (λ (o : Option Rule). equality_by s o v (w ∷ [])) e)
    ∙ ap (λ (o : Option Rule). is_equivalent_by s o v w) (sym e)

pub any_alike : TestsAreItems → (s : SchemaModel) (t : ℕ) (r : Rule) (v k : List ℕ) (ws ls : List (List ℕ)) →
    equality_of s t ≡ Some r → key_at s r v ≡ Some k → map (key_at s r) ws ≡ map Some ls → list_any (bytes_eq k) ls ≡
    list_any (is_equivalent s t v) ws
any_alike law s t r v k [] [] e hv h = refl
any_alike law s t r v k [] (l ∷ ls) e hv h = absurd (cc)
any_alike law s t r v k (w ∷ ws) [] e hv h = absurd (cc)
any_alike law s t r v k (w ∷ ws) (l ∷ ls) e hv h =
    let first : key_at s r w ≡ Some l = cc in
    let more : map (key_at s r) ws ≡ map Some ls = cc in
    ap₂ (λ (a b : Bool). a || b) (alike law s t r v w k l e hv first) (any_alike law s t r v k ws ls e hv more)

pub twice_alike : TestsAreItems → (s : SchemaModel) (t : ℕ) (r : Rule) (vs ks : List (List ℕ)) → equality_of s t ≡
    Some r → map (key_at s r) vs ≡ map Some ks → has_twice bytes_eq ks ≡ has_repeats s t vs
twice_alike law s t r [] [] e h = refl
twice_alike law s t r [] (k ∷ ks) e h = absurd (cc)
twice_alike law s t r (v ∷ vs) [] e h = absurd (cc)
twice_alike law s t r (v ∷ vs) (k ∷ ks) e h =
    let first : key_at s r v ≡ Some k = cc in
    let more : map (key_at s r) vs ≡ map Some ks = cc in
    ap₂ (λ (a b : Bool). a || b) (any_alike law s t r v k vs ks e first more) (twice_alike law s t r vs ks e more)

-- equal keys are repeats, where the type has a rule
pub by_keys : TestsAreItems → (s : SchemaModel) (t : ℕ) (r : Rule) (vs ks : List (List ℕ)) → equality_of s t ≡
    Some r → AreKeysOf s t vs ks → has_twice bytes_eq ks ≡ has_repeats s t vs
by_keys law s t r vs ks e h = twice_alike law s t r vs ks e (subst (λ (o : Option Rule). AreKeysBy s o vs ks) e h)

-- equal octets are repeats, where it has none
pub by_octets : (s : SchemaModel) (t : ℕ) (vs : List (List ℕ)) → equality_of s t ≡ None → has_twice bytes_eq vs ≡
    has_repeats s t vs
by_octets s t vs e = ap (λ (o : Option Rule). has_twice (is_equivalent_by s o) vs) (sym e)

-- equal octets that values are compared by are repeats
pub repeats_by : TestsAreItems → (s : SchemaModel) (a : KeyedAttribute) (by : Bool) → by ≡
    is_some (equality_of s a.kind) → AreKeysOf s a.kind a.values a.keys → has_twice bytes_eq (octets_by by a) ≡
    has_repeats s a.kind a.values
repeats_by law s a by e h = ap (λ (b : Bool). has_twice bytes_eq (octets_by b a)) e
    ∙ under (equality_of s a.kind) refl
  where
    under : (o : Option Rule) → equality_of s a.kind ≡ o → has_twice bytes_eq (octets_by (is_some o) a) ≡
        has_repeats s a.kind a.values
    under None f = by_octets s a.kind a.values f
    under (Some r) f = by_keys law s a.kind r a.values a.keys f h
