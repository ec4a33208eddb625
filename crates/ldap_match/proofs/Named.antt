-- Names as values: equal meanings, equal keys.
use Rattle.std.proofs.Common.{ℕ, List, [], ◌∷◌, Bool, true, false, nat_eq, IsUtf8, Option, None, Some, is_some, option_map, ◌≡◌, ◌↔◌, refl, ap, ap₂, sym, ◌∙◌, map}
use Rattle.std.specs.Bool.{Decides}
use Rattle.std.specs.Cmp.Lexicographic.{pointwise}
use Rattle.std.specs.Str.{bytes_eq, is_utf8}
use Rattle.std.proofs.lemmas.Bool.Decides.{Decides-like, Decides-and, Decides-eqb}
use Rattle.std.proofs.lemmas.Slice.Eq.{bytes_eq-Decides, slice_eq-Decides}
use Rattle.std.proofs.lemmas.Str.{is_utf8-from_IsUtf8, IsUtf8-from_is_utf8}
use Rattle.ldap_dn.specs.ldap_syntax.Meaning.{Meaning, name}
use Rattle.ldap_dn.specs.ldap_schema.Schema.{SchemaModel}
use Rattle.ldap_dn.specs.Names.{TypeAndKey, RdnModel, rdns}
use Rattle.ldap_dn.specs.NameKeys.{NameKeysAreOfNames}
use Rattle.ldap_dn.specs.Texts.{name_of_text}
use Rattle.ldap_match.specs.Meaning.{name_of, pair_of, name_meaning}
use Rattle.ldap_match.specs.Item.{is_same_pair}
use Rattle.ldap_match.specs.Keyed.{key_of_name}
use Rattle.ldap_match.specs.NameValues.{EqualValuesAreOneName}

-- whether types with keys are one, decided; then sets of them, and lists of sets
pair_decides : (a b : ℕ × List ℕ) → Decides (is_same_pair a b) (a ≡ b)
pair_decides a b =
    Decides-like (is_same_pair a b) (λ p. ap₂ (λ (x : ℕ) (y : List ℕ). (x, y)) p.0 p.1)
    (λ e. (ap (λ (x : ℕ × List ℕ). x.0) e, ap (λ (x : ℕ × List ℕ). x.1) e))
    (Decides-and (nat_eq a.0 b.0) (bytes_eq a.1 b.1) (Decides-eqb a.0 b.0) (bytes_eq-Decides a.1 b.1))

rdn_decides : (a b : List (ℕ × List ℕ)) → Decides (pointwise is_same_pair a b) (a ≡ b)
rdn_decides a b = slice_eq-Decides pair_decides a b (pointwise is_same_pair a b) refl

pub names_decide : (a b : List (List (ℕ × List ℕ))) → Decides (pointwise (pointwise is_same_pair) a b) (a ≡ b)
names_decide a b = slice_eq-Decides rdn_decides a b (pointwise (pointwise is_same_pair) a b) refl

-- types with keys, of which pairs were made
abbrev unpaired : ℕ × List ℕ → TypeAndKey
unpaired p = record { kind = p.0; key = p.1 }

back : (ks : List TypeAndKey) → map unpaired (map pair_of ks) ≡ ks
back [] = refl
back (k ∷ ks) = ap (λ (xs : List TypeAndKey). k ∷ xs) (back ks)

all_back : (n : List (List TypeAndKey)) → map (map unpaired) (map (map pair_of) n) ≡ n
all_back [] = refl
all_back (ks ∷ n) = ap₂ (λ (x : List TypeAndKey) (xs : List (List TypeAndKey)). x ∷ xs) (back ks) (all_back n)

same_pairs : (a b : List (List TypeAndKey)) → map (map pair_of) a ≡ map (map pair_of) b → a ≡ b
same_pairs a b e = sym (all_back a) ∙ ap (map (map unpaired)) e ∙ all_back b

spelled_out : (a b : List (List (ℕ × List ℕ))) → name a ≡ name b → a ≡ b
spelled_out a b e = cc

-- names have one key exactly where they mean the same
names_equal : NameKeysAreOfNames → (a b : List RdnModel) → (key_of_name a ≡ key_of_name b) ↔
    (name_meaning a ≡ name_meaning b)
names_equal h a b = (
  λ e. ap (λ (x : List (List TypeAndKey)). name (map (map pair_of) x)) ((h a b).0 e),
  λ e. (h a b).1 (same_pairs (rdns a) (rdns b) (spelled_out _ _ e)),
)

-- and are equal as values exactly where they are one name
pub equal_values : EqualValuesAreOneName
equal_values a b =
    let d = names_decide (map (map pair_of) (rdns a)) (map (map pair_of) (rdns b)) in
    (λ e. same_pairs (rdns a) (rdns b) (d.0 e), λ e. d.1 (ap (map (map pair_of)) e))

pub named_some : (o : Option (List RdnModel)) → is_some (option_map key_of_name o) ≡ is_some (option_map name_meaning o)
named_some None = refl
named_some (Some n) = refl

pub named_equal : NameKeysAreOfNames → (o p : Option (List RdnModel)) (m n : Meaning) (k l : List ℕ) →
    option_map name_meaning o ≡ Some m → option_map name_meaning p ≡ Some n → option_map key_of_name o ≡ Some k →
    option_map key_of_name p ≡ Some l
    → (k ≡ l) ↔ (m ≡ n)
named_equal h None p m n k l e f g i = absurd (cc)
named_equal h (Some a) None m n k l e f g i = absurd (cc)
named_equal h (Some a) (Some b) m n k l e f g i =
    let em : name_meaning a ≡ m = cc in
    let en : name_meaning b ≡ n = cc in
    let ek : key_of_name a ≡ k = cc in
    let el : key_of_name b ≡ l = cc in
    let q = names_equal h a b in (λ x. sym em ∙ q.0 (ek ∙ x ∙ sym el) ∙ en, λ y. sym ek ∙ q.1 (em ∙ y ∙ sym en) ∙ el)

-- a value in UTF-8 spells the name of its text, and any other none
pub text_named : (s : SchemaModel) (v : List ℕ) {n : List RdnModel} → IsUtf8 v → name_of_text s v ≡ Some n →
    name_of s v ≡ Some n
text_named s v u e = rw (is_utf8-from_IsUtf8 v u) e

not_true : (b : Bool) → (b ≡ true → ⊥) → b ≡ false
not_true true h = absurd (h refl)
not_true false h = refl

pub octets_not_named : (s : SchemaModel) (v : List ℕ) → (IsUtf8 v → ⊥) → name_of s v ≡ None
octets_not_named s v h = rw (not_true (is_utf8 v) (λ e. h (IsUtf8-from_is_utf8 v e))) refl
