-- Values that are held, by their keys or their octets.
use Rattle.std.proofs.Common.{ℕ, List, [], ◌∷◌, Bool, false, Option, None, Some, ◌≡◌, refl, ap, ap₂, sym, subst, ◌∙◌, map}
use Rattle.std.specs.List.{list_any}
use Rattle.std.specs.Str.{bytes_eq}
use Rattle.dir_entry.specs.ldap_syntax.Meaning.{Meaning}
use Rattle.dir_entry.specs.ldap_words.declared.rule.Rule.{Rule}
use Rattle.dir_entry.specs.ldap_schema.Schema.{SchemaModel}
use Rattle.dir_entry.specs.ldap_match.Meaning.{meaning}
use Rattle.dir_entry.specs.ldap_schema.Rules.{equality_of}
use Rattle.dir_entry.specs.ldap_match.Keyed.{key_at, AreKeysBy, AreKeysOf}
use Rattle.dir_entry.specs.Values.{is_same_meaning, is_equivalent_by, is_equivalent}
use Rattle.dir_entry.specs.Entry.{KeyedAttribute}
use Rattle.entry_changes.specs.Editing.{holds}
use Rattle.entry_changes.specs.private.Compared.{compared_by, compared}
use Rattle.dir_entry.proofs.Equivalents.{TestsAreItems, alike, any_alike}
use Rattle.entry_changes.proofs.Marked.{none_of}

-- among other values, by keys
among_keys : TestsAreItems → (s : SchemaModel) (t : ℕ) (r : Rule) (vs ks ws ls : List (List ℕ)) → equality_of s t ≡
    Some r → map (key_at s r) vs ≡ map Some ks → map (key_at s r) ws ≡ map Some ls
    → map (λ x. list_any (bytes_eq x) ls) ks ≡ map (holds s t ws) vs
among_keys law s t r [] [] ws ls e h o = refl
among_keys law s t r [] (k ∷ ks) ws ls e h o = absurd (cc)
among_keys law s t r (v ∷ vs) [] ws ls e h o = absurd (cc)
among_keys law s t r (v ∷ vs) (k ∷ ks) ws ls e h o =
    let first : key_at s r v ≡ Some k = cc in
    let more : map (key_at s r) vs ≡ map Some ks = cc in
    ap₂ (λ (b : Bool) (bs : List Bool). b ∷ bs) (any_alike law s t r v k ws ls e first o)
    (among_keys law s t r vs ks ws ls e more o)

-- and by octets
among_octets : (s : SchemaModel) (t : ℕ) (vs ws : List (List ℕ)) → equality_of s t ≡ None →
    map (λ x. list_any (bytes_eq x) ws) vs ≡ map (holds s t ws) vs
among_octets s t vs ws e = ap (λ (o : Option Rule). map (λ v. list_any (is_equivalent_by s o v) ws) vs) (sym e)

among_by : TestsAreItems → (s : SchemaModel) (t : ℕ) (o : Option Rule) (a b : KeyedAttribute) → equality_of s t ≡ o →
    AreKeysBy s o a.values a.keys → AreKeysBy s o b.values b.keys
    → map (λ x. list_any (bytes_eq x) (compared_by o b)) (compared_by o a) ≡ map (holds s t b.values) a.values
among_by law s t None a b e h k = among_octets s t a.values b.values e
among_by law s t (Some r) a b e h k = among_keys law s t r a.values a.keys b.values b.keys e h k

-- which values of an attribute are equivalent to some of another's
pub among : TestsAreItems → (s : SchemaModel) (a b : KeyedAttribute) → a.kind ≡ b.kind → AreKeysOf s a.kind a.values
    a.keys → AreKeysOf s b.kind b.values b.keys
    → map (λ x. list_any (bytes_eq x) (compared s b)) (compared s a) ≡ map (holds s a.kind b.values) a.values
among law s a b e h k =
    ap (λ (t : ℕ). map (λ x. list_any (bytes_eq x) (compared_by (equality_of s t) b)) (compared s a)) (sym e)
    ∙ among_by law s a.kind (equality_of s a.kind) a b refl h
    (subst (λ (t : ℕ). AreKeysBy s (equality_of s t) b.values b.keys) (sym e) k)

-- a value by its key
pub held_by_key : TestsAreItems → (s : SchemaModel) (t : ℕ) (r : Rule) (v k : List ℕ) (vs ks : List (List ℕ)) →
    equality_of s t ≡ Some r → key_at s r v ≡ Some k → AreKeysOf s t vs ks → list_any (bytes_eq k) ks ≡ holds s t vs v
held_by_key law s t r v k vs ks e h o = any_alike law s t r v k vs ks e h
    (subst (λ (x : Option Rule). AreKeysBy s x vs ks) e o)

-- a value that means nothing is equivalent to none
pub held_by_none : (s : SchemaModel) (t : ℕ) (r : Rule) (v : List ℕ) (vs : List (List ℕ)) → equality_of s t ≡ Some r →
    meaning s r v ≡ None → holds s t vs v ≡ false
held_by_none s t r v vs e h =
    ap (λ (o : Option Rule). list_any (is_equivalent_by s o v) vs) e
    ∙ ap (λ (m : Option Meaning). list_any (λ w. is_same_meaning m (meaning s r w)) vs) h ∙ none_of vs

-- a value by its octets
pub held_by_octets : (s : SchemaModel) (t : ℕ) (v : List ℕ) (vs : List (List ℕ)) → equality_of s t ≡ None →
    list_any (bytes_eq v) vs ≡ holds s t vs v
held_by_octets s t v vs e = ap (λ (o : Option Rule). list_any (is_equivalent_by s o v) vs) (sym e)

pub equivalent_keys : TestsAreItems → (s : SchemaModel) (t : ℕ) (r : Rule) (v w k l : List ℕ) → equality_of s t ≡
    Some r → key_at s r v ≡ Some k → key_at s r w ≡ Some l → bytes_eq k l ≡ is_equivalent s t v w
equivalent_keys law s t r v w k l e h o = alike law s t r v w k l e h o
