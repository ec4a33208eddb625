-- Tests made of items that name a rule, on the keys and the texts of values. Only the evaluation of filters names them.
use Rattle.std.specs.Prelude.{ℕ, List, Bool, cond, Option, None, Some}
use Rattle.std.specs.List.{list_any}
use Rattle.dir_entry.specs.ldap_words.declared.rule.Rule.{Rule}
use Rattle.dir_entry.specs.ldap_syntax.Forms.{is_met, is_met_by, is_text_met}
use Rattle.dir_entry.specs.ldap_schema.Schema.{SchemaModel}
use Rattle.dir_entry.specs.ldap_dn.Pairs.{PairModel}
use Rattle.dir_entry.specs.ldap_match.Truth.{truth_of}
use Rattle.dir_entry.specs.ldap_match.Keyed.{key_at}
use Rattle.ldap_eval.specs.Matching.{rule_for, asks_less, goes_by_key}
use Rattle.dir_entry.specs.ldap_match.declared.truth.Truth.{Truth}
use Rattle.dir_entry.specs.ldap_match.declared.truth.Truth.TheVariants.{Undefined}
use Rattle.ldap_eval.specs.declared.naming_rules.How.{How}
use Rattle.ldap_eval.specs.declared.matching.MatchTest.{MatchTest}
use Rattle.ldap_eval.specs.declared.matching.MatchTest.TheVariants as test

-- a test by the kept keys, or by keys made of the values
abbrev pub match_made : Bool → Rule → Bool → List ℕ → MatchTest
match_made by_key r less k = cond by_key (test.Kept (record { less = less; key = k }))
    (test.Text r (record { less = less; key = k }))

-- unknown where the assertion has no key
abbrev pub match_of_key : SchemaModel → How → ℕ → Rule → Option (List ℕ) → MatchTest
match_of_key s h t r None = test.Unknown
match_of_key s h t r (Some k) = match_made (goes_by_key s h t) r (asks_less h) k

-- unknown where there is no rule
abbrev pub match_of_rule : SchemaModel → How → List ℕ → ℕ → Option Rule → MatchTest
match_of_rule s h a t None = test.Unknown
match_of_rule s h a t (Some r) = match_of_key s h t r (key_at s r a)

-- the test that an item makes of the values of a type
abbrev pub match_for : SchemaModel → How → List ℕ → ℕ → MatchTest
match_for s h a t = match_of_rule s h a t (rule_for s h t)

-- a test on the values of an attribute and their keys
abbrev pub match_value : MatchTest → List (List ℕ) → List (List ℕ) → Truth
match_value test.Unknown values keys = Undefined
match_value (test.Kept a) values keys = truth_of (list_any (is_met a.less a.key) keys)
match_value (test.Text r a) values keys = truth_of (list_any (is_text_met r a.less a.key) values)

-- a test on a pair of a name
abbrev pub match_pair : MatchTest → PairModel → Truth
match_pair test.Unknown p = Undefined
match_pair (test.Kept a) p = truth_of (is_met_by a.less a.key p.key)
match_pair (test.Text r a) p = truth_of (is_text_met r a.less a.key p.value)
