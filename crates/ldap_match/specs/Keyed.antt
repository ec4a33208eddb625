-- Keys where a schema is known, and a test made of an item. Only the evaluation of filters names them.
use Rattle.std.specs.Prelude.{ℕ, List, Bool, not, ◌||◌, Option, None, Some, map, option_map, ◌≡◌}
use Rattle.std.specs.List.{list_any}
use Rattle.std.specs.Str.{bytes_eq}
use Rattle.ldap_dn.specs.ldap_syntax.Keys as syntax
use Rattle.ldap_dn.specs.ldap_syntax.Meaning.{is_before}
use Rattle.ldap_dn.specs.ldap_syntax.declared.preparing.Part.TheVariants.{Initial, Any, Final}
use Rattle.ldap_dn.specs.ldap_words.declared.rule.Family.{Family}
use Rattle.ldap_dn.specs.ldap_words.declared.rule.Family.TheVariants as family
use Rattle.ldap_dn.specs.ldap_words.declared.rule.Rule.{Rule}
use Rattle.ldap_dn.specs.ldap_schema.Schema.{SchemaModel}
use Rattle.ldap_dn.specs.Keyed as plain
use Rattle.ldap_dn.specs.ldap_schema.Rules.{equality_of}
use Rattle.ldap_dn.specs.Names.{RdnModel, rdns}
use Rattle.ldap_dn.specs.NameKeys.{name_key}
use Rattle.ldap_match.specs.Meaning.{name_of}
use Rattle.ldap_match.specs.Truth.{truth_of}
use Rattle.ldap_match.specs.Parts.{PartsModel, has_parts}
use Rattle.ldap_match.specs.Item.{Item, present, equal, at_least, at_most, substrings, ordering_of, substrings_of, end_by, each_by, three_parts}
use Rattle.ldap_match.specs.declared.truth.Truth.{Truth}
use Rattle.ldap_match.specs.declared.truth.Truth.TheVariants.{True, Undefined}
use Rattle.ldap_match.specs.declared.testing.Test.{Test}
use Rattle.ldap_match.specs.declared.testing.Test.TheVariants as test

-- the key of what a name means
abbrev pub key_of_name : List RdnModel → List ℕ
key_of_name n = name_key (rdns n)

-- the key by the rule's family: a name's is the key of the name, others are made as those of values that are no names
abbrev pub key_by : SchemaModel → Rule → Family → List ℕ → Option (List ℕ)
key_by s r family.Name v = option_map key_of_name (name_of s v)
key_by s r f v = plain.key_by s r f v

-- a value's key under a rule; none, where the value isn't in the syntax
abbrev pub key_at : SchemaModel → Rule → List ℕ → Option (List ℕ)
key_at s r v = key_by s r r.family v

-- the key of each part under a rule; none, where one is no part of a value
abbrev pub part_keys_at : Rule → PartsModel → Option PartsModel
part_keys_at r p = three_parts (end_by (syntax.part_key_at r Initial) p.initial) (each_by (syntax.part_key_at r Any)
    p.any) (end_by (syntax.part_key_at r Final) p.last)

-- the test by a key; unknown, where there is no key
abbrev pub test_of : {A : Type 0} → (A → Test) → Option A → Test
test_of make None = test.Unknown
test_of make (Some k) = make k

-- the test by the key under a rule; unknown, where there is no rule or no key
abbrev pub test_by_rule : {A : Type 0} → (A → Test) → (Rule → Option A) → Option Rule → Test
test_by_rule make keyed None = test.Unknown
test_by_rule make keyed (Some r) = test_of make (keyed r)

-- an equality item's, by the rule of a type
abbrev pub test_by : SchemaModel → Option Rule → List ℕ → Test
test_by s o a = test_by_rule test.Equal (λ r. key_at s r a) o

-- the test that an item makes of the attributes of one type
abbrev pub test_for : SchemaModel → Item → ℕ → Test
test_for s present t = test.Present
test_for s (equal a) t = test_by s (equality_of s t) a
test_for s (at_least a) t = test_by_rule test.AtLeast (λ r. key_at s r a) (ordering_of s t)
test_for s (at_most a) t = test_by_rule test.AtMost (λ r. key_at s r a) (ordering_of s t)
test_for s (substrings p) t = test_by_rule test.Parts (λ r. part_keys_at r p) (substrings_of s t)

-- whether a value's key passes
abbrev pub is_same_key : List ℕ → List ℕ → Bool
is_same_key k x = bytes_eq x k

-- whether a value's key is this one or stands behind it
abbrev pub is_key_at_least : List ℕ → List ℕ → Bool
is_key_at_least k x = not (is_before x k)

-- whether a value's key is this one or stands before it
abbrev pub is_key_at_most : List ℕ → List ℕ → Bool
is_key_at_most k x = is_before x k || bytes_eq x k

-- a test on the keys of an attribute's values
abbrev pub test_value : Test → List (List ℕ) → Truth
test_value test.Present keys = True
test_value test.Unknown keys = Undefined
test_value (test.Equal k) keys = truth_of (list_any (is_same_key k) keys)
test_value (test.AtLeast k) keys = truth_of (list_any (is_key_at_least k) keys)
test_value (test.AtMost k) keys = truth_of (list_any (is_key_at_most k) keys)
test_value (test.Parts p) keys = truth_of (list_any (has_parts p) keys)

-- the keys of values under a rule, one for each; without a rule any keys will do
abbrev pub AreKeysBy : SchemaModel → Option Rule → List (List ℕ) → List (List ℕ) → Type 0
AreKeysBy s None values keys = Unit {0}
AreKeysBy s (Some r) values keys = map (key_at s r) values ≡ map Some keys

-- the keys of values under the EQUALITY rule of their type
abbrev pub AreKeysOf : SchemaModel → ℕ → List (List ℕ) → List (List ℕ) → Type 0
AreKeysOf s t values keys = AreKeysBy s (equality_of s t) values keys
