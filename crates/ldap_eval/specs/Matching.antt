-- An item that names a rule, on one attribute and on one pair of a name: RFC 4511 4.5.1.7.7.
use Rattle.std.specs.Prelude.{ℕ, List, Bool, true, false, not, cond, ◌&&◌, ◌||◌, Option, None, Some, option_map, slice_get}
use Rattle.std.specs.Option.{option_or, option_map_or}
use Rattle.dir_entry.specs.ldap_words.Families.{is_ordering, is_textual, is_used_on}
use Rattle.dir_entry.specs.ldap_syntax.Meaning.{Meaning}
use Rattle.dir_entry.specs.ldap_words.declared.rule.Family.{Family}
use Rattle.dir_entry.specs.ldap_words.declared.rule.Rule.{Rule}
use Rattle.dir_entry.specs.ldap_words.declared.rule.Syntax.{Syntax}
use Rattle.dir_entry.specs.ldap_syntax.Forms.{is_met_by}
use Rattle.dir_entry.specs.ldap_schema.Schema.{SchemaModel, TypeModel}
use Rattle.dir_entry.specs.ldap_schema.Rules.{equality_of}
use Rattle.dir_entry.specs.ldap_dn.Pairs.{PairModel}
use Rattle.dir_entry.specs.ldap_words.RulesByName.{equality_family, ordering_family}
use Rattle.dir_entry.specs.ldap_match.Meaning.{meaning}
use Rattle.dir_entry.specs.ldap_match.Truth.{truth_of}
use Rattle.dir_entry.specs.ldap_match.Item.{is_meant, is_less_meaning, by_rule}
use Rattle.dir_entry.specs.ldap_match.Keyed.{key_at}
use Rattle.dir_entry.specs.ldap_match.declared.truth.Truth.{Truth}
use Rattle.dir_entry.specs.ldap_match.declared.truth.Truth.TheVariants.{Undefined}
use Rattle.ldap_eval.specs.declared.naming_rules.NamedRule.{NamedRule}
use Rattle.ldap_eval.specs.declared.naming_rules.How.{How}
use Rattle.ldap_eval.specs.declared.naming_rules.How.TheVariants as how

-- the equality or the ordering rule of a name in any case, or of an object identifier (RFC 4517 4.2)
abbrev pub named_rule : List ℕ → Option NamedRule
named_rule w =
    option_or (option_map (λ f. record { family = f; less = false }) (equality_family w))
    (option_map (λ f. record { family = f; less = true }) (ordering_family w))

-- whether a type's rule is used on the syntax, and the family on the rule's
abbrev pub is_rule_of : Option Rule → Family → Syntax → Bool
is_rule_of None f x = false
is_rule_of (Some r) f x = is_used_on r.family x && is_used_on f r.syntax

-- whether values of the syntax may be compared by the family: all texts may, others by their own rule alone
abbrev pub is_own_or_text : Syntax → Option Rule → Family → Bool
is_own_or_text x equality f = is_textual x || is_rule_of equality f x

-- the rule of the family for a type, where it is supported
abbrev pub supported_in : Option TypeModel → Family → Option Rule
supported_in None f = None
supported_in (Some t) f = cond (is_used_on f t.syntax && is_own_or_text t.syntax t.equality f)
    (Some (record { family = f; syntax = t.syntax })) None

-- The rule of a family on a type's values; none, where the type doesn't support it: the family's rules are not used on
-- its syntax (RFC 4517 4.2). A type whose values are no text supports the rules of its EQUALITY rule's family: no
-- schema that is read has a type without that rule, or with one that is not used on its syntax.
abbrev pub supported_rule : SchemaModel → ℕ → Family → Option Rule
supported_rule s t f = supported_in (slice_get s.types t) f

-- the rule by which an item compares the values of a type: one that it names, else the type's own EQUALITY rule
abbrev pub rule_for : SchemaModel → How → ℕ → Option Rule
rule_for s how.Own t = equality_of s t
rule_for s (how.Named r) t = supported_rule s t r.family

-- whether values are to be less than the assertion, and not equal to it
abbrev pub asks_less : How → Bool
asks_less how.Own = false
asks_less (how.Named r) = r.less && is_ordering r.family

-- whether a value's meaning satisfies a rule: by an equality rule it is this one, by an ordering rule less than it (RFC
-- 4517 4.2.5 and its kin)
abbrev pub satisfies : Bool → Meaning → Option Meaning → Bool
satisfies true m o = option_map_or (λ n. is_less_meaning n m) o false
satisfies false m o = is_meant m o

-- The item on the values of one attribute: True if a value satisfies the rule; Undefined if the type doesn't support
-- it, or the assertion is not in the type's syntax; else False.
abbrev pub match_on_values : SchemaModel → How → List ℕ → ℕ → List (List ℕ) → Truth
match_on_values s h a t values = by_rule (satisfies (asks_less h)) (λ r. meaning s r a) s (rule_for s h t) values

-- whether the values of a type are text
abbrev pub is_text_type : SchemaModel → ℕ → Bool
is_text_type s t = option_map_or (λ d. is_textual d.syntax) (slice_get s.types t) false

-- whether the rule is the type's own EQUALITY rule, which makes the keys in names: it always is where the values are no
-- text
abbrev pub goes_by_key : SchemaModel → How → ℕ → Bool
goes_by_key s how.Own t = true
goes_by_key s (how.Named r) t = not (is_text_type s t)

-- whether a value's key meets the assertion's, where it has one
abbrev pub key_meets : Bool → Option (List ℕ) → Option (List ℕ) → Bool
key_meets less None x = false
key_meets less (Some k) x = is_met_by less k x

-- Whether a pair of a name satisfies a rule: by its key, by which names are told apart, where the rule is the type's
-- own; else by what its value means.
abbrev pub pair_satisfies : SchemaModel → How → Rule → List ℕ → Meaning → PairModel → Bool
pair_satisfies s h r a m p = cond (goes_by_key s h p.kind) (key_meets (asks_less h) (key_at s r a) p.key)
    (satisfies (asks_less h) m (meaning s r p.value))

-- Undefined where the assertion has no meaning, else whether the pair satisfies it
abbrev pub pair_answered : SchemaModel → How → Rule → List ℕ → Option Meaning → PairModel → Truth
pair_answered s h r a None p = Undefined
pair_answered s h r a (Some m) p = truth_of (pair_satisfies s h r a m p)

-- The item on one pair of a name, which counts as an attribute with one value (RFC 4511 4.5.1.7.7, dnAttributes);
-- Undefined where there is no rule.
abbrev pub match_on_pair : SchemaModel → How → List ℕ → PairModel → Truth
match_on_pair s h a p = option_map_or (λ r. pair_answered s h r a (meaning s r a) p) (rule_for s h p.kind) Undefined
