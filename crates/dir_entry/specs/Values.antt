-- When two values of an attribute are one: RFC 4512 2.2.
use Rattle.std.specs.Prelude.{ℕ, List, [], ◌∷◌, Bool, false, ◌||◌, Option, None, Some}
use Rattle.std.specs.List.{list_any}
use Rattle.std.specs.Str.{bytes_eq}
use Rattle.ldap_match.specs.ldap_syntax.Meaning.{Meaning}
use Rattle.ldap_match.specs.ldap_words.declared.rule.Rule.{Rule}
use Rattle.ldap_match.specs.ldap_schema.Schema.{SchemaModel}
use Rattle.ldap_match.specs.ldap_schema.Rules.{equality_of}
use Rattle.ldap_match.specs.Item.{is_meant}
use Rattle.ldap_match.specs.Meaning.{meaning}

-- whether two values mean something, and the same
abbrev pub is_same_meaning : Option Meaning → Option Meaning → Bool
is_same_meaning None n = false
is_same_meaning (Some m) n = is_meant m n

-- whether two values match by a rule; where there is none, whether they are identical
abbrev pub is_equivalent_by : SchemaModel → Option Rule → List ℕ → List ℕ → Bool
is_equivalent_by s None v w = bytes_eq v w
is_equivalent_by s (Some r) v w = is_same_meaning (meaning s r v) (meaning s r w)

-- Two values of a type are equivalent: they match by its EQUALITY rule, or are identical where it has none (RFC 4512
-- 2.2).
abbrev pub is_equivalent : SchemaModel → ℕ → List ℕ → List ℕ → Bool
is_equivalent s t v w = is_equivalent_by s (equality_of s t) v w

-- some element is the same as a later one
abbrev pub has_twice : {A : Type 0} → (A → A → Bool) → List A → Bool
has_twice same [] = false
has_twice same (x ∷ xs) = list_any (same x) xs || has_twice same xs

-- of these values of a type two are equivalent
abbrev pub has_repeats : SchemaModel → ℕ → List (List ℕ) → Bool
has_repeats s t values = has_twice (is_equivalent s t) values
