-- Tests on keys against items on values.
use Rattle.std.proofs.Common.{ℕ, ℤ, ◌<ℤ◌, ◌≤ℤ◌, T, List, [], ◌∷◌, Bool, true, false, cond, not, ◌||◌, Option, None, Some, is_some, ◌≡◌, ◌↔◌, refl, ap, ap₂, sym, subst, ◌∙◌, map, encode_utf8_all, slice_get, arith}
use Rattle.std.specs.Option.{option_and_then}
use Rattle.std.specs.Bool.{Decides}
use Rattle.std.specs.Int.Signed.{lt_z, lt_z_yes, lt_z_no}
use Rattle.std.specs.List.{list_any}
use Rattle.std.specs.Str.{bytes_eq}
use Rattle.std.proofs.lemmas.Int.{ints}
use Rattle.std.proofs.lemmas.Bool.Decides.{same_from_decides, Decides-int_eq}
use Rattle.std.proofs.lemmas.Slice.Eq.{bytes_eq-Decides}
use Rattle.ldap_dn.specs.ldap_words.Families.{is_ordering, has_substrings}
use Rattle.ldap_dn.specs.ldap_syntax.Meaning as syntax_meaning
use Rattle.ldap_dn.specs.ldap_syntax.Meaning.{Meaning, number, text, truth, octets, identifier, name, is_before, part_meaning, IsLessMeaning}
use Rattle.ldap_dn.specs.ldap_syntax.Parts.{HasParts, MeaningHasParts}
use Rattle.ldap_dn.specs.ldap_syntax.Keys as syntax_keys
use Rattle.ldap_dn.specs.ldap_syntax.Keys.{KeysArePresentAsMeanings, KeysAreEqualAsMeanings, KeysAreOrderedAsMeanings, PartsStandAsMeanings}
use Rattle.ldap_dn.specs.ldap_syntax.declared.preparing.Part.TheVariants.{Initial, Any, Final}
use Rattle.ldap_dn.specs.ldap_words.declared.rule.Family.{Family}
use Rattle.ldap_dn.specs.ldap_words.declared.rule.Family.TheVariants as family
use Rattle.ldap_dn.specs.ldap_words.declared.rule.Rule.{Rule}
use Rattle.ldap_dn.specs.ldap_schema.Schema.{SchemaModel, TypeModel}
use Rattle.ldap_dn.specs.Meaning.{dotted, identified}
use Rattle.ldap_dn.specs.ldap_schema.Rules.{equality_in, equality_of}
use Rattle.ldap_dn.specs.NameKeys.{NameKeysAreOfNames}
use Rattle.ldap_match.specs.Meaning.{meaning, meaning_by, name_of}
use Rattle.ldap_match.specs.Parts.{PartsModel, has_parts}
use Rattle.ldap_match.specs.Truth.{truth_of}
use Rattle.ldap_match.specs.Item.{Item, present, equal, at_least, at_most, substrings, is_equal_meaning, is_meant, is_less_meaning, is_at_least, is_at_most, has_prepared, of_family, beside, ordering_of, substrings_of, some_of, end_by, put_before, each_by, three_parts, prepared_parts, answered, by_rule, item_on_attribute, are_valid_by, is_answerable}
use Rattle.ldap_match.specs.declared.testing.Test.{Test}
use Rattle.ldap_match.specs.declared.testing.Test.TheVariants as test
use Rattle.ldap_match.specs.Keyed.{key_at, key_by, part_keys_at, test_of, test_by_rule, test_for, test_value, is_same_key, is_key_at_least, is_key_at_most, AreKeysBy, AreKeysOf}
use Rattle.ldap_match.proofs.Decided.{parts_decides}
use Rattle.ldap_match.proofs.Named.{names_decide, named_some, named_equal}
use Rattle.ldap_dn.specs.ldap_words.Octets.{utf8_of}

-- whether meanings are equal, decided
pub equal_decides : (m n : Meaning) → Decides (is_equal_meaning m n) (m ≡ n)
equal_decides (number a) (number b) = (λ h. ap number ((Decides-int_eq a b).0 h), λ e. (Decides-int_eq a b).1 (cc))
equal_decides (text a) (text b) = (λ h. ap text ((bytes_eq-Decides a b).0 h), λ e. (bytes_eq-Decides a b).1 (cc))
equal_decides (truth true) (truth true) = (λ h. refl, λ e. refl)
equal_decides (truth true) (truth false) = (λ h. cc, λ e. cc)
equal_decides (truth false) (truth true) = (λ h. cc, λ e. cc)
equal_decides (truth false) (truth false) = (λ h. refl, λ e. refl)
equal_decides (octets a) (octets b) = (λ h. ap octets ((bytes_eq-Decides a b).0 h), λ e. (bytes_eq-Decides a b).1 (cc))
equal_decides (identifier a) (identifier b) = (
  λ h. ap identifier ((bytes_eq-Decides a b).0 h),
  λ e. (bytes_eq-Decides a b).1 (cc),
)
equal_decides (number a) (text b) = (λ h. cc, λ e. cc)
equal_decides (number a) (truth b) = (λ h. cc, λ e. cc)
equal_decides (number a) (octets b) = (λ h. cc, λ e. cc)
equal_decides (number a) (identifier b) = (λ h. cc, λ e. cc)
equal_decides (text a) (number b) = (λ h. cc, λ e. cc)
equal_decides (text a) (truth b) = (λ h. cc, λ e. cc)
equal_decides (text a) (octets b) = (λ h. cc, λ e. cc)
equal_decides (text a) (identifier b) = (λ h. cc, λ e. cc)
equal_decides (truth a) (number b) = (λ h. cc, λ e. cc)
equal_decides (truth a) (text b) = (λ h. cc, λ e. cc)
equal_decides (truth a) (octets b) = (λ h. cc, λ e. cc)
equal_decides (truth a) (identifier b) = (λ h. cc, λ e. cc)
equal_decides (octets a) (number b) = (λ h. cc, λ e. cc)
equal_decides (octets a) (text b) = (λ h. cc, λ e. cc)
equal_decides (octets a) (truth b) = (λ h. cc, λ e. cc)
equal_decides (octets a) (identifier b) = (λ h. cc, λ e. cc)
equal_decides (identifier a) (number b) = (λ h. cc, λ e. cc)
equal_decides (identifier a) (text b) = (λ h. cc, λ e. cc)
equal_decides (identifier a) (truth b) = (λ h. cc, λ e. cc)
equal_decides (identifier a) (octets b) = (λ h. cc, λ e. cc)
equal_decides (name a) (name b) = (λ h. ap name ((names_decide a b).0 h), λ e. (names_decide a b).1 (cc))
equal_decides (name a) (number b) = (λ h. cc, λ e. cc)
equal_decides (name a) (text b) = (λ h. cc, λ e. cc)
equal_decides (name a) (truth b) = (λ h. cc, λ e. cc)
equal_decides (name a) (octets b) = (λ h. cc, λ e. cc)
equal_decides (name a) (identifier b) = (λ h. cc, λ e. cc)
equal_decides (number a) (name b) = (λ h. cc, λ e. cc)
equal_decides (text a) (name b) = (λ h. cc, λ e. cc)
equal_decides (truth a) (name b) = (λ h. cc, λ e. cc)
equal_decides (octets a) (name b) = (λ h. cc, λ e. cc)
equal_decides (identifier a) (name b) = (λ h. cc, λ e. cc)

pub same_test : (k l : List ℕ) (m n : Meaning) → (l ≡ k) ↔ (n ≡ m) → bytes_eq l k ≡ is_equal_meaning n m
same_test k l m n h =
    same_from_decides {P = l ≡ k} (bytes_eq l k) (is_equal_meaning n m) (bytes_eq-Decides l k)
    (λ t. h.1 ((equal_decides n m).0 t), λ e. (equal_decides n m).1 (h.0 e))

-- whether meanings are in order, decided
number_decides_by : (a b : ℤ) (t : Bool) → lt_z a b ≡ t → Decides t (a <ℤ b)
number_decides_by a b true e = (λ h. lt_z_yes (subst T (sym e) tt), λ l. refl)
number_decides_by a b false e = (
  λ h. absurd (cc),
  λ l. absurd (let m : b ≤ℤ a = lt_z_no (subst (λ (x : Bool). T (not x)) (sym e) tt) in omega (arith, ints, l, m)),
)

number_decides : (a b : ℤ) → Decides (lt_z a b) (a <ℤ b)
number_decides a b = number_decides_by a b (lt_z a b) refl

never : Decides false ⊥
never = (λ h. absurd (cc), λ e. absurd e)

less_decides : (m n : Meaning) → Decides (is_less_meaning m n) (IsLessMeaning m n)
less_decides (number a) (number b) = number_decides a b
less_decides (text a) (text b) = (λ h. h, λ h. h)
less_decides (truth a) (truth b) = never
less_decides (octets a) (octets b) = never
less_decides (identifier a) (identifier b) = never
less_decides (number a) (text b) = never
less_decides (number a) (truth b) = never
less_decides (number a) (octets b) = never
less_decides (number a) (identifier b) = never
less_decides (text a) (number b) = never
less_decides (text a) (truth b) = never
less_decides (text a) (octets b) = never
less_decides (text a) (identifier b) = never
less_decides (truth a) (number b) = never
less_decides (truth a) (text b) = never
less_decides (truth a) (octets b) = never
less_decides (truth a) (identifier b) = never
less_decides (octets a) (number b) = never
less_decides (octets a) (text b) = never
less_decides (octets a) (truth b) = never
less_decides (octets a) (identifier b) = never
less_decides (identifier a) (number b) = never
less_decides (identifier a) (text b) = never
less_decides (identifier a) (truth b) = never
less_decides (identifier a) (octets b) = never
less_decides (name a) (name b) = never
less_decides (name a) (number b) = never
less_decides (name a) (text b) = never
less_decides (name a) (truth b) = never
less_decides (name a) (octets b) = never
less_decides (name a) (identifier b) = never
less_decides (number a) (name b) = never
less_decides (text a) (name b) = never
less_decides (truth a) (name b) = never
less_decides (octets a) (name b) = never
less_decides (identifier a) (name b) = never

-- whether a meaning has parts, decided
prepared_decides : (p : PartsModel) (m : Meaning) → Decides (has_prepared p (Some m)) (MeaningHasParts p.initial p.any
    p.last m)
prepared_decides p (text t) = parts_decides p t
prepared_decides p (number a) = never
prepared_decides p (truth a) = never
prepared_decides p (octets a) = never
prepared_decides p (identifier a) = never
prepared_decides p (name a) = never

-- the laws of keys, as the crates below give them
pub record KeyLaws : Type 0 where
  pub present : KeysArePresentAsMeanings
  pub equal : KeysAreEqualAsMeanings
  pub ordered : KeysAreOrderedAsMeanings
  pub stand : PartsStandAsMeanings
  pub told : NameKeysAreOfNames

-- the keys of parts that were prepared
abbrev pub keyed_parts : PartsModel → PartsModel
keyed_parts p = record { initial = utf8_of p.initial; any = map encode_utf8_all p.any; last = utf8_of p.last }

-- the laws of keys, where a schema is known
pub record KeysMean (s : SchemaModel) (r : Rule) : Type 0 where
  pub is_present : (v : List ℕ) → is_some (key_at s r v) ≡ is_some (meaning s r v)
  pub is_equal : (v w : List ℕ) (m n : Meaning) (k l : List ℕ) → meaning s r v ≡ Some m → meaning s r w ≡ Some n →
      key_at s r v ≡ Some k → key_at s r w ≡ Some l → (k ≡ l) ↔ (m ≡ n)
  pub is_ordered : is_ordering r.family ≡ true → (v w : List ℕ) (m n : Meaning) (k l : List ℕ) → meaning s r v ≡
      Some m → meaning s r w ≡ Some n → key_at s r v ≡ Some k → key_at s r w ≡ Some l →
      (is_before k l ≡ true) ↔ IsLessMeaning m n
  pub has_parts_too : has_substrings r.family ≡ true → (p : PartsModel) (v : List ℕ) (m : Meaning) (k : List ℕ) →
      meaning s r v ≡ Some m → key_at s r v ≡ Some k
      → HasParts (keyed_parts p).initial (keyed_parts p).any (keyed_parts p).last k ↔ MeaningHasParts p.initial p.any
      p.last m

identified_some : (o : Option (List ℕ)) → is_some o ≡ is_some (identified o)
identified_some None = refl
identified_some (Some x) = refl

identified_is : (o : Option (List ℕ)) (m : Meaning) (k : List ℕ) → identified o ≡ Some m → o ≡ Some k → identifier k ≡ m
identified_is o m k e f = let g : identified (Some k) ≡ Some m = rw f at e in cc

identified_equal : (o p : Option (List ℕ)) (m n : Meaning) (k l : List ℕ) → identified o ≡ Some m → identified p ≡
    Some n → o ≡ Some k → p ≡ Some l → (k ≡ l) ↔ (m ≡ n)
identified_equal o p m n k l e f g h =
    let a : identifier k ≡ m = identified_is o m k e g in
    let b : identifier l ≡ n = identified_is p n l f h in
    (λ q. sym a ∙ ap identifier q ∙ b, λ q. cc)

present_by : (s : SchemaModel) (r : Rule) (f : Family) → KeysArePresentAsMeanings → (v : List ℕ) →
    is_some (key_by s r f v) ≡ is_some (meaning_by s r f v)
present_by s r family.Identifier p v = identified_some (dotted s v)
present_by s r family.Name p v = named_some (name_of s v)
present_by s r family.Ignore p v = p r v
present_by s r family.Exact p v = p r v
present_by s r family.Numeric p v = p r v
present_by s r family.Boolean p v = p r v
present_by s r family.Integer p v = p r v
present_by s r family.Octet p v = p r v
present_by s r family.Telephone p v = p r v
present_by s r family.Time p v = p r v
present_by s r family.Ia5 p v = p r v
present_by s r family.Ia5Exact p v = p r v

equal_by : (s : SchemaModel) (r : Rule) (f : Family) → KeysAreEqualAsMeanings → NameKeysAreOfNames
    → (v w : List ℕ) (m n : Meaning) (k l : List ℕ) → meaning_by s r f v ≡ Some m → meaning_by s r f w ≡ Some n →
    key_by s r f v ≡ Some k → key_by s r f w ≡ Some l → (k ≡ l) ↔ (m ≡ n)
equal_by s r family.Identifier q t v w m n k l = identified_equal (dotted s v) (dotted s w) m n k l
equal_by s r family.Name q t v w m n k l = named_equal t (name_of s v) (name_of s w) m n k l
equal_by s r family.Ignore q t v w m n k l = q r v w m n k l
equal_by s r family.Exact q t v w m n k l = q r v w m n k l
equal_by s r family.Numeric q t v w m n k l = q r v w m n k l
equal_by s r family.Boolean q t v w m n k l = q r v w m n k l
equal_by s r family.Integer q t v w m n k l = q r v w m n k l
equal_by s r family.Octet q t v w m n k l = q r v w m n k l
equal_by s r family.Telephone q t v w m n k l = q r v w m n k l
equal_by s r family.Time q t v w m n k l = q r v w m n k l
equal_by s r family.Ia5 q t v w m n k l = q r v w m n k l
equal_by s r family.Ia5Exact q t v w m n k l = q r v w m n k l

-- a family of ordered values or of texts minds no schema
pub record Plain (s : SchemaModel) (r : Rule) (f : Family) : Type 0 where
  pub key : (v : List ℕ) → key_by s r f v ≡ syntax_keys.key_at r v
  pub means : (v : List ℕ) → meaning_by s r f v ≡ syntax_meaning.meaning r v

plain : (s : SchemaModel) (r : Rule) (f : Family) → (f ≡ family.Identifier → ⊥) → (f ≡ family.Name → ⊥) → Plain s r f
plain s r family.Identifier h i = absurd (h refl)
plain s r family.Name h i = absurd (i refl)
plain s r family.Ignore h i = record { key = λ v. refl; means = λ v. refl }
plain s r family.Exact h i = record { key = λ v. refl; means = λ v. refl }
plain s r family.Numeric h i = record { key = λ v. refl; means = λ v. refl }
plain s r family.Boolean h i = record { key = λ v. refl; means = λ v. refl }
plain s r family.Integer h i = record { key = λ v. refl; means = λ v. refl }
plain s r family.Octet h i = record { key = λ v. refl; means = λ v. refl }
plain s r family.Telephone h i = record { key = λ v. refl; means = λ v. refl }
plain s r family.Time h i = record { key = λ v. refl; means = λ v. refl }
plain s r family.Ia5 h i = record { key = λ v. refl; means = λ v. refl }
plain s r family.Ia5Exact h i = record { key = λ v. refl; means = λ v. refl }

pub not_offered : (offers : Family → Bool) (f g : Family) → offers g ≡ false → offers f ≡ true → f ≡ g → ⊥
not_offered offers f g n h e = let z : false ≡ true = sym n ∙ sym (ap offers e) ∙ h in cc

pub keys_mean : KeyLaws → (s : SchemaModel) (r : Rule) → KeysMean s r
keys_mean laws s r =
    record {
      is_present = present_by s r r.family laws.present;
      is_equal = equal_by s r r.family laws.equal laws.told;
      is_ordered = λ o v w m n k l a b d e.
          let p = plain s r r.family (not_offered is_ordering r.family family.Identifier refl o)
          (not_offered is_ordering r.family family.Name refl o) in
          laws.ordered r v w m n k l o (sym (p.means v) ∙ a) (sym (p.means w) ∙ b) (sym (p.key v) ∙ d) (sym (p.key w)
          ∙ e);
      has_parts_too = λ o q v m k a d.
          let p = plain s r r.family (not_offered has_substrings r.family family.Identifier refl o)
          (not_offered has_substrings r.family family.Name refl o) in
          laws.stand r v m k q.initial q.last q.any o (sym (p.means v) ∙ a) (sym (p.key v) ∙ d);
    }

-- ---- one value: its key against its meaning

-- what is asked of a key, and of the meaning of its value, are one
abbrev pub AsksSame : SchemaModel → Rule → (List ℕ → Bool) → (Option Meaning → Bool) → Type 0
AsksSame s r kp mp = (v l : List ℕ) (n : Meaning) → key_at s r v ≡ Some l → meaning s r v ≡ Some n → kp l ≡ mp (Some n)

by_some : (s : SchemaModel) (r : Rule) (kp : List ℕ → Bool) (mp : Option Meaning → Bool) (v l : List ℕ)
    (o : Option Meaning) → AsksSame s r kp mp → key_at s r v ≡ Some l → meaning s r v ≡ o → is_some o ≡ true →
    kp l ≡ mp o
by_some s r kp mp v l None h k m is = absurd (cc)
by_some s r kp mp v l (Some n) h k m is = h v l n k m

head_is : {A : Type 0} (x y : A) (xs ys : List A) → x ∷ xs ≡ y ∷ ys → x ≡ y
head_is x y xs ys e = cc

tail_is : {A : Type 0} (x y : A) (xs ys : List A) → x ∷ xs ≡ y ∷ ys → xs ≡ ys
tail_is x y xs ys e = cc

any_passes : (s : SchemaModel) (r : Rule) (kp : List ℕ → Bool) (mp : Option Meaning → Bool)
    (values keys : List (List ℕ)) → KeysMean s r → AsksSame s r kp mp → map (key_at s r) values ≡ map Some keys
    → list_any kp keys ≡ list_any (λ v. mp (meaning s r v)) values
any_passes s r kp mp [] [] h asks e = refl
any_passes s r kp mp [] (l ∷ keys) h asks e = absurd (cc)
any_passes s r kp mp (v ∷ values) [] h asks e = absurd (cc)
any_passes s r kp mp (v ∷ values) (l ∷ keys) h asks e =
    let k = head_is (key_at s r v) (Some l) (map (key_at s r) values) (map Some keys) e in
    ap₂ (λ (x y : Bool). x || y) (by_some s r kp mp v l (meaning s r v) asks k refl (sym (h.is_present v)
    ∙ ap is_some k))
    (any_passes s r kp mp values keys h asks (tail_is (key_at s r v) (Some l) (map (key_at s r) values)
    (map Some keys) e))

asks_equal : (s : SchemaModel) (r : Rule) (a k : List ℕ) (m : Meaning) → KeysMean s r → meaning s r a ≡ Some m →
    key_at s r a ≡ Some k → AsksSame s r (is_same_key k) (is_meant m)
asks_equal s r a k m h ma ka = λ v l n kv mv. same_test k l m n (h.is_equal v a n m l k mv ma kv ka)

pub same_order : (s : SchemaModel) (r : Rule) (a k : List ℕ) (m : Meaning) → KeysMean s r → is_ordering r.family ≡
    true → meaning s r a ≡ Some m → key_at s r a ≡ Some k → (v l : List ℕ) (n : Meaning) → key_at s r v ≡ Some l →
    meaning s r v ≡ Some n → is_before l k ≡ is_less_meaning n m
same_order s r a k m h o ma ka v l n kv mv = same_from_decides {P = IsLessMeaning n m} (is_before l k)
    (is_less_meaning n m) (h.is_ordered o v a n m l k mv ma kv ka) (less_decides n m)

asks_at_least : (s : SchemaModel) (r : Rule) (a k : List ℕ) (m : Meaning) → KeysMean s r → is_ordering r.family ≡
    true → meaning s r a ≡ Some m → key_at s r a ≡ Some k → AsksSame s r (is_key_at_least k) (is_at_least m)
asks_at_least s r a k m h o ma ka = λ v l n kv mv. ap not (same_order s r a k m h o ma ka v l n kv mv)

asks_at_most : (s : SchemaModel) (r : Rule) (a k : List ℕ) (m : Meaning) → KeysMean s r → is_ordering r.family ≡
    true → meaning s r a ≡ Some m → key_at s r a ≡ Some k → AsksSame s r (is_key_at_most k) (is_at_most m)
asks_at_most s r a k m h o ma ka = λ v l n kv mv. ap₂ (λ (x y : Bool). x || y) (same_order s r a k m h o ma ka v l n
    kv mv) (same_test k l m n (h.is_equal v a n m l k mv ma kv ka))

asks_parts : (s : SchemaModel) (r : Rule) (p : PartsModel) → KeysMean s r → has_substrings r.family ≡ true →
    AsksSame s r (has_parts (keyed_parts p)) (has_prepared p)
asks_parts s r p h o = λ v l n kv mv.
    let d = parts_decides (keyed_parts p) l in
    let t = h.has_parts_too o p v n l mv kv in
    same_from_decides {P = MeaningHasParts p.initial p.any p.last n} (has_parts (keyed_parts p) l)
    (has_prepared p (Some n)) (λ x. t.0 (d.0 x), λ x. d.1 (t.1 x)) (prepared_decides p n)

-- ---- all values: the test against the item

-- an assertion's key and meaning ask the same
abbrev pub AssertsSame : SchemaModel → Rule → (List ℕ → List ℕ → Bool) → (Meaning → Option Meaning → Bool) → List ℕ →
    Type 0
AssertsSame s r kp mp a = (m : Meaning) (k : List ℕ) → meaning s r a ≡ Some m → key_at s r a ≡ Some k →
    AsksSame s r (kp k) (mp m)

-- a test that a key makes
abbrev pub Makes : (List ℕ → Test) → (List ℕ → List ℕ → Bool) → Type 0
Makes make kp = (k : List ℕ) (keys : List (List ℕ)) → test_value (make k) keys ≡ truth_of (list_any (kp k) keys)

by_meaning : (s : SchemaModel) (r : Rule) (make : List ℕ → Test) (kp : List ℕ → List ℕ → Bool) (mp : Meaning →
    Option Meaning → Bool) (a : List ℕ) (values keys : List (List ℕ)) (o : Option (List ℕ)) (p : Option Meaning)
    → KeysMean s r → Makes make kp → AssertsSame s r kp mp a → key_at s r a ≡ o → meaning s r a ≡ p →
    is_some o ≡ is_some p → map (key_at s r) values ≡ map Some keys
    → test_value (test_of make o) keys ≡ answered mp s r p values
by_meaning s r make kp mp a values keys None None h makes same ka ma is e = refl
by_meaning s r make kp mp a values keys None (Some m) h makes same ka ma is e = absurd (cc)
by_meaning s r make kp mp a values keys (Some k) None h makes same ka ma is e = absurd (cc)
by_meaning s r make kp mp a values keys (Some k) (Some m) h makes same ka ma is e = makes k keys
    ∙ ap truth_of (any_passes s r (kp k) (mp m) values keys h (same m k ma ka) e)

by_equality : (s : SchemaModel) (o : Option Rule) (a : List ℕ) (values keys : List (List ℕ)) →
    ((r : Rule) → KeysMean s r) → AreKeysBy s o values keys
    → test_value (test_by_rule test.Equal (λ r. key_at s r a) o) keys ≡ by_rule is_meant (λ r. meaning s r a) s o values
by_equality s None a values keys h e = refl
by_equality s (Some r) a values keys h e =
    by_meaning s r test.Equal is_same_key is_meant a values keys (key_at s r a) (meaning s r a) (h r) (λ k ks. refl)
    (λ m k ma ka. asks_equal s r a k m (h r) ma ka) refl refl ((h r).is_present a) e

of_family_is : (offers : Family → Bool) (o : Option Rule) (r : Rule) → of_family offers o ≡ Some r → (o ≡ Some r)
    × (offers r.family ≡ true)
of_family_is offers None r e = absurd (cc)
of_family_is offers (Some q) r e = offered offers q r (offers q.family) refl e where
  offered : (offers : Family → Bool) (q r : Rule) (b : Bool) → offers q.family ≡ b → cond b (Some q) None ≡ Some r →
      (Some q ≡ Some r) × (offers r.family ≡ true)
  offered offers q r true f e = let same : q ≡ r = cc in (e, sym (ap (λ (x : Rule). offers x.family) same) ∙ f)
  offered offers q r false f e = absurd (cc)

beside_is : (x y : Option Rule) (r : Rule) → beside x y ≡ Some r → y ≡ Some r
beside_is None y r e = absurd (cc)
beside_is (Some o) y r e = e

pub ordering_is : (o : Option TypeModel) (r : Rule) →
    option_and_then (λ (d : TypeModel). beside d.ordering (of_family is_ordering d.equality)) o ≡ Some r →
    (equality_in o ≡ Some r) × (is_ordering r.family ≡ true)
ordering_is None r e = absurd (cc)
ordering_is (Some t) r e = of_family_is is_ordering t.equality r
    (beside_is t.ordering (of_family is_ordering t.equality) r e)

substrings_is : (o : Option TypeModel) (r : Rule) → option_and_then (λ (d : TypeModel). beside d.substrings
    (of_family has_substrings d.equality)) o ≡ Some r → (equality_in o ≡ Some r) × (has_substrings r.family ≡ true)
substrings_is None r e = absurd (cc)
substrings_is (Some t) r e = of_family_is has_substrings t.equality r
    (beside_is t.substrings (of_family has_substrings t.equality) r e)

-- the keys under the EQUALITY rule are keys under this rule
keys_under : (s : SchemaModel) (o : Option Rule) (r : Rule) (values keys : List (List ℕ)) → o ≡ Some r →
    AreKeysBy s o values keys → map (key_at s r) values ≡ map Some keys
keys_under s o r values keys e k = subst (λ (x : Option Rule). AreKeysBy s x values keys) e k

by_at_least : (s : SchemaModel) (t : ℕ) (o : Option Rule) (a : List ℕ) (values keys : List (List ℕ)) →
    ((r : Rule) → KeysMean s r) → ordering_of s t ≡ o → AreKeysOf s t values keys
    → test_value (test_by_rule test.AtLeast (λ r. key_at s r a) o) keys ≡ by_rule is_at_least (λ r. meaning s r a) s o
    values
by_at_least s t None a values keys h q e = refl
by_at_least s t (Some r) a values keys h q e =
    let is = ordering_is (slice_get s.types t) r q in
    by_meaning s r test.AtLeast is_key_at_least is_at_least a values keys (key_at s r a) (meaning s r a) (h r)
    (λ k ks. refl) (λ m k ma ka. asks_at_least s r a k m (h r) is.1 ma ka) refl refl ((h r).is_present a)
    (keys_under s (equality_of s t) r values keys is.0 e)

by_at_most : (s : SchemaModel) (t : ℕ) (o : Option Rule) (a : List ℕ) (values keys : List (List ℕ)) →
    ((r : Rule) → KeysMean s r) → ordering_of s t ≡ o → AreKeysOf s t values keys
    → test_value (test_by_rule test.AtMost (λ r. key_at s r a) o) keys ≡ by_rule is_at_most (λ r. meaning s r a) s o
    values
by_at_most s t None a values keys h q e = refl
by_at_most s t (Some r) a values keys h q e =
    let is = ordering_is (slice_get s.types t) r q in
    by_meaning s r test.AtMost is_key_at_most is_at_most a values keys (key_at s r a) (meaning s r a) (h r)
    (λ k ks. refl) (λ m k ma ka. asks_at_most s r a k m (h r) is.1 ma ka) refl refl ((h r).is_present a)
    (keys_under s (equality_of s t) r values keys is.0 e)

-- the keys of parts are the keys of prepared parts
abbrev pub keyed_end : Option (Option (List ℕ)) → Option (Option (List ℕ))
keyed_end None = None
keyed_end (Some i) = Some (utf8_of i)

abbrev pub keyed_each : Option (List (List ℕ)) → Option (List (List ℕ))
keyed_each None = None
keyed_each (Some ts) = Some (map encode_utf8_all ts)

abbrev pub keyed_all : Option PartsModel → Option PartsModel
keyed_all None = None
keyed_all (Some p) = Some (keyed_parts p)

keyed_some : (o : Option (List ℕ)) → some_of (utf8_of o) ≡ keyed_end (some_of o)
keyed_some None = refl
keyed_some (Some t) = refl

ends_keyed : (g : List ℕ → Option (List ℕ)) (o : Option (List ℕ)) → end_by (λ v. utf8_of (g v)) o ≡
    keyed_end (end_by g o)
ends_keyed g None = refl
ends_keyed g (Some v) = keyed_some (g v)

keyed_before : (o : Option (List ℕ)) (os : Option (List (List ℕ))) → put_before (utf8_of o) (keyed_each os) ≡
    keyed_each (put_before o os)
keyed_before None os = refl
keyed_before (Some t) None = refl
keyed_before (Some t) (Some ts) = refl

each_keyed : (g : List ℕ → Option (List ℕ)) (vs : List (List ℕ)) → each_by (λ v. utf8_of (g v)) vs ≡
    keyed_each (each_by g vs)
each_keyed g [] = refl
each_keyed g (v ∷ vs) = ap (put_before (utf8_of (g v))) (each_keyed g vs) ∙ keyed_before (g v) (each_by g vs)

three_keyed : (i : Option (Option (List ℕ))) (a : Option (List (List ℕ))) (l : Option (Option (List ℕ))) →
    three_parts (keyed_end i) (keyed_each a) (keyed_end l) ≡ keyed_all (three_parts i a l)
three_keyed None a l = refl
three_keyed (Some i) None l = refl
three_keyed (Some i) (Some a) None = refl
three_keyed (Some i) (Some a) (Some l) = refl

parts_keyed : (r : Rule) (p : PartsModel) → part_keys_at r p ≡ keyed_all (prepared_parts r p)
parts_keyed r p =
    ap₂ (λ (i : Option (Option (List ℕ))) (a : Option (List (List ℕ))). three_parts i a
    (end_by (syntax_keys.part_key_at r Final) p.last)) (ends_keyed (part_meaning r Initial) p.initial)
    (each_keyed (part_meaning r Any) p.any)
    ∙ ap (three_parts (keyed_end (end_by (part_meaning r Initial) p.initial))
    (keyed_each (each_by (part_meaning r Any) p.any))) (ends_keyed (part_meaning r Final) p.last)
    ∙ three_keyed (end_by (part_meaning r Initial) p.initial) (each_by (part_meaning r Any) p.any)
    (end_by (part_meaning r Final) p.last)

by_prepared : (s : SchemaModel) (r : Rule) (values keys : List (List ℕ)) (o : Option PartsModel) → KeysMean s r →
    has_substrings r.family ≡ true → map (key_at s r) values ≡ map Some keys
    → test_value (test_of test.Parts (keyed_all o)) keys ≡ answered has_prepared s r o values
by_prepared s r values keys None h f e = refl
by_prepared s r values keys (Some p) h f e = ap truth_of (any_passes s r (has_parts (keyed_parts p)) (has_prepared p)
    values keys h (asks_parts s r p h f) e)

by_substrings : (s : SchemaModel) (t : ℕ) (o : Option Rule) (p : PartsModel) (values keys : List (List ℕ)) →
    ((r : Rule) → KeysMean s r) → substrings_of s t ≡ o → AreKeysOf s t values keys
    → test_value (test_by_rule test.Parts (λ r. part_keys_at r p) o) keys ≡ by_rule has_prepared
    (λ r. prepared_parts r p) s o values
by_substrings s t None p values keys h q e = refl
by_substrings s t (Some r) p values keys h q e =
    let is = substrings_is (slice_get s.types t) r q in
    ap (λ (x : Option PartsModel). test_value (test_of test.Parts x) keys) (parts_keyed r p)
    ∙ by_prepared s r values keys (prepared_parts r p) (h r) is.1 (keys_under s (equality_of s t) r values keys is.0 e)

pub tests_item : (s : SchemaModel) (asked : Item) (t : ℕ) (values keys : List (List ℕ)) →
    ((r : Rule) → KeysMean s r) → AreKeysOf s t values keys → test_value (test_for s asked t) keys ≡ item_on_attribute
    s asked t values
tests_item s present t values keys h e = refl
tests_item s (equal a) t values keys h e = by_equality s (equality_of s t) a values keys h e
tests_item s (at_least a) t values keys h e = by_at_least s t (ordering_of s t) a values keys h refl e
tests_item s (at_most a) t values keys h e = by_at_most s t (ordering_of s t) a values keys h refl e
tests_item s (substrings p) t values keys h e = by_substrings s t (substrings_of s t) p values keys h refl e

-- what has no meaning has no key
none_is : {A : Type 0} (o : Option A) → is_some o ≡ false → o ≡ None
none_is None e = refl
none_is (Some x) e = absurd (cc)

pub no_key : (s : SchemaModel) (r : Rule) (a : List ℕ) → KeysArePresentAsMeanings → meaning s r a ≡ None →
    None ≡ key_at s r a
no_key s r a p e = sym (none_is (key_at s r a) (present_by s r r.family p a ∙ ap is_some e))

-- parts have keys exactly where they were prepared
some_parts : (o : Option PartsModel) (k : PartsModel) → keyed_all o ≡ Some k → is_some o ≡ true
some_parts None k e = absurd (cc)
some_parts (Some p) k e = refl

no_parts : (o : Option PartsModel) → keyed_all o ≡ None → is_some o ≡ false
no_parts None e = refl
no_parts (Some p) e = absurd (cc)

pub parts_answer : (s : SchemaModel) (t : ℕ) (r : Rule) (p k : PartsModel) → substrings_of s t ≡ Some r →
    part_keys_at r p ≡ Some k → true ≡ is_answerable s (substrings p) t
parts_answer s t r p k e h = sym (ap (λ (o : Option Rule). are_valid_by o p) e ∙ some_parts (prepared_parts r p) k
    (sym (parts_keyed r p) ∙ h))

pub parts_do_not_answer : (s : SchemaModel) (t : ℕ) (r : Rule) (p : PartsModel) → substrings_of s t ≡ Some r →
    part_keys_at r p ≡ None → false ≡ is_answerable s (substrings p) t
parts_do_not_answer s t r p e h = sym (ap (λ (o : Option Rule). are_valid_by o p) e ∙ no_parts (prepared_parts r p)
    (sym (parts_keyed r p) ∙ h))
