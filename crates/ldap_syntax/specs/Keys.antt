-- Keys: octets that are equal, and in byte order, as meanings are. No statement above the evaluation of filters names
-- them.
use Rattle.std.specs.Prelude.{ℕ, ◌-◌, List, [], ◌∷◌, ◌++◌, true, cond, nat_eq, map, Option, None, Some, is_some, encode_utf8_all, ◌≡◌, ◌↔◌}
use Rattle.ldap_words.specs.Numbers.{is_integer}
use Rattle.ldap_words.specs.Identifiers.{is_numericoid}
use Rattle.ldap_syntax.specs.Times.{is_time}
use Rattle.ldap_syntax.specs.Syntaxes.{is_in_syntax, is_boolean}
use Rattle.ldap_words.specs.Families.{is_ordering, has_substrings}
use Rattle.ldap_syntax.specs.Meaning.{Meaning, spelled, meaning, part_meaning, is_before, IsLessMeaning}
use Rattle.ldap_syntax.specs.Parts.{HasParts, MeaningHasParts}
use Rattle.ldap_syntax.specs.declared.preparing.Part.{Part}
use Rattle.ldap_syntax.specs.declared.preparing.Part.TheVariants.{Whole}
use Rattle.ldap_words.specs.declared.rule.Family.{Family}
use Rattle.ldap_words.specs.declared.rule.Family.TheVariants as family
use Rattle.ldap_words.specs.declared.rule.Rule.{Rule}
use Rattle.ldap_words.specs.Octets.{utf8_of}

-- digits behind their count, written as so many ones and a zero
abbrev pub counted : List ℕ → List ℕ
counted ds = map (λ d. 1) ds ++ 0 ∷ ds

-- each octet turned round, so that the greatest comes first
abbrev pub turned : List ℕ → List ℕ
turned xs = map (λ x. 255 - x) xs

-- a sign octet, and the digits behind their count, each octet turned round where the number is negative
abbrev pub number_key : List ℕ → List ℕ
number_key [] = []
number_key (c ∷ cs) = cond (nat_eq c 45) (0 ∷ turned (counted cs)) (1 ∷ counted (c ∷ cs))

-- a value's key in a family; that of a prepared text is its UTF-8
abbrev pub key_in : Family → List ℕ → Option (List ℕ)
key_in family.Identifier v = cond (is_numericoid v) (Some v) None
key_in family.Name v = None
key_in family.Boolean v = cond (is_boolean v) (Some v) None
key_in family.Integer v = cond (is_integer v) (Some (number_key v)) None
key_in family.Octet v = Some v
key_in family.Time v = cond (is_time v) (Some v) None
key_in family.Ignore v = utf8_of (spelled family.Ignore Whole v)
key_in family.Exact v = utf8_of (spelled family.Exact Whole v)
key_in family.Numeric v = utf8_of (spelled family.Numeric Whole v)
key_in family.Telephone v = utf8_of (spelled family.Telephone Whole v)
key_in family.Ia5 v = utf8_of (spelled family.Ia5 Whole v)
key_in family.Ia5Exact v = utf8_of (spelled family.Ia5Exact Whole v)

-- a value's key under a rule; none, where the value isn't in the syntax
abbrev pub key_at : Rule → List ℕ → Option (List ℕ)
key_at r v = cond (is_in_syntax r.syntax v) (key_in r.family v) None

-- the key of a part of a substring assertion; none, where it means nothing
abbrev pub part_key_at : Rule → Part → List ℕ → Option (List ℕ)
part_key_at r part v = utf8_of (part_meaning r part v)

-- A value has a key exactly where it has a meaning.
abbrev pub KeysArePresentAsMeanings : Type 0
KeysArePresentAsMeanings = (r : Rule) (v : List ℕ) → is_some (key_at r v) ≡ is_some (meaning r v)

-- Under one rule, keys are equal exactly where meanings are.
abbrev pub KeysAreEqualAsMeanings : Type 0
KeysAreEqualAsMeanings = (r : Rule) (v w : List ℕ) (m n : Meaning) (k l : List ℕ) → meaning r v ≡ Some m →
    meaning r w ≡ Some n → key_at r v ≡ Some k → key_at r w ≡ Some l → (k ≡ l) ↔ (m ≡ n)

-- Under a rule that orders, keys are in order exactly where meanings are.
abbrev pub KeysAreOrderedAsMeanings : Type 0
KeysAreOrderedAsMeanings = (r : Rule) (v w : List ℕ) (m n : Meaning) (k l : List ℕ) → is_ordering r.family ≡ true →
    meaning r v ≡ Some m → meaning r w ≡ Some n → key_at r v ≡ Some k → key_at r w ≡ Some l →
    (is_before k l ≡ true) ↔ IsLessMeaning m n

-- Under a rule with a substrings rule, a key has the keys of prepared parts exactly where the meaning has the parts.
abbrev pub PartsStandAsMeanings : Type 0
PartsStandAsMeanings = (r : Rule) (v : List ℕ) (m : Meaning) (k : List ℕ) (initial final : Option (List ℕ))
    (any : List (List ℕ)) → has_substrings r.family ≡ true → meaning r v ≡ Some m → key_at r v ≡ Some k
    → HasParts (utf8_of initial) (map encode_utf8_all any) (utf8_of final) k ↔ MeaningHasParts initial any final m
