-- The three-valued value of a filter on an entry: RFC 4511 4.5.1.7.
use Rattle.std.specs.Prelude.{ℕ, List, Bool, false, cond, Option, None, Some, is_some, option_map, filter, map}
use Rattle.std.specs.Option.{option_map_or}
use Rattle.std.specs.List.{list_any}
use Rattle.dir_entry.specs.ldap_schema.Schema.{SchemaModel, find, is_under}
use Rattle.dir_entry.specs.ldap_match.Truth.{truth_and, truth_or, truth_not, disjunction}
use Rattle.dir_entry.specs.ldap_match.Parts.{PartsModel}
use Rattle.dir_entry.specs.ldap_match.Item.{Item, present, equal, at_least, at_most, substrings, is_answerable, item_on_attribute, is_of_syntax, is_valid_by}
use Rattle.ldap_eval.specs.Matching.{named_rule, supported_in, rule_for, match_on_values, match_on_pair}
use Rattle.ldap_eval.specs.declared.naming_rules.How.{How}
use Rattle.ldap_eval.specs.declared.naming_rules.How.TheVariants as how
use Rattle.dir_entry.specs.ldap_dn.Names.{RdnModel}
use Rattle.dir_entry.specs.ldap_dn.Pairs.{PairModel, pairs_of}
use Rattle.dir_entry.specs.ldap_match.declared.truth.Truth.{Truth}
use Rattle.dir_entry.specs.ldap_match.declared.truth.Truth.TheVariants.{True, False, Undefined}
use Rattle.dir_entry.specs.Entry.{AttributeModel}
use Rattle.ldap_filter.specs.Item as filter_item
use Rattle.ldap_filter.specs.Item.{Comparison, SubstringsValue, ExtensibleValue}
use Rattle.ldap_filter.specs.Tree.{Tree, conj, disj, negation, item, Trees, no_trees, tree}

-- the attributes of a type and of its subtypes (RFC 4512 2.5.1)
abbrev pub attributes_under : SchemaModel → ℕ → List AttributeModel → List AttributeModel
attributes_under s t e = filter (λ a. is_under s a.kind t) e

-- The item on a type: Undefined, where the type lacks the rule or the assertion is not in its syntax; else the `or` of
-- the item on each attribute of the type and its subtypes (RFC 4511 4.5.1.7).
abbrev pub item_on_type : SchemaModel → Item → ℕ → List AttributeModel → Truth
item_on_type s asked t e = cond (is_answerable s asked t)
    (disjunction (map (λ a. item_on_attribute s asked a.kind a.values) (attributes_under s t e))) Undefined

-- Undefined where the type is unknown (RFC 4511 4.5.1.7)
abbrev pub item_on : SchemaModel → Item → Option ℕ → List AttributeModel → Truth
item_on s asked None e = Undefined
item_on s asked (Some t) e = item_on_type s asked t e

-- The item on an entry: Undefined, where the description is not recognised (RFC 4511 4.5.1.7).
abbrev pub item_value : SchemaModel → List ℕ → Item → List AttributeModel → Truth
item_value s description asked e = item_on s asked (find s description) e

-- the parts of a substrings item
abbrev pub parts_of : SubstringsValue → PartsModel
parts_of s = record { initial = s.initial; any = s.any; last = s.last }

-- what a comparison asks; approximately equal is equal here (RFC 4511 4.5.1.7.6)
abbrev pub asked_by : Comparison → List ℕ → Item
asked_by filter_item.at_least a = at_least a
asked_by filter_item.at_most a = at_most a
asked_by filter_item.equal a = equal a
asked_by filter_item.approximate a = equal a

-- ---- extensible items (RFC 4511 4.5.1.7.7)

-- how an item compares values: by the type's own rule, where it names none; nothing, where what it names is no equality
-- or ordering rule
abbrev pub how_of : Option (List ℕ) → Option How
how_of None = Some how.Own
how_of (Some word) = option_map how.Named (named_rule word)

-- the type that an item names, or that it names none; nothing, where the description is not recognised
abbrev pub type_of : SchemaModel → Option (List ℕ) → Option (Option ℕ)
type_of s None = Some None
type_of s (Some d) = option_map Some (find s d)

-- Whether an item can be matched: with a type, the type supports the rule, and the assertion is in its syntax; with a
-- rule alone, some type of the schema supports it that has the assertion in its syntax; with neither, it can not.
abbrev pub is_matched : SchemaModel → How → Option ℕ → List ℕ → Bool
is_matched s how.Own None a = false
is_matched s how.Own (Some t) a = is_of_syntax s t a
is_matched s (how.Named r) None a = list_any (λ t. is_valid_by s (supported_in (Some t) r.family) a) s.types
is_matched s (how.Named r) (Some t) a = is_valid_by s (rule_for s (how.Named r) t) a

-- whether an item looks at attributes of this type: those of its type and of the subtypes; without a type, those whose
-- type supports the rule
abbrev pub is_looked_at : SchemaModel → How → Option ℕ → ℕ → Bool
is_looked_at s h None u = is_some (rule_for s h u)
is_looked_at s h (Some t) u = is_under s u t

-- the `or` of an item over the attributes that it looks at
abbrev pub match_on_entry : SchemaModel → How → Option ℕ → List ℕ → List AttributeModel → Truth
match_on_entry s h t a e = disjunction (map (λ x. match_on_values s h a x.kind x.values)
    (filter (λ x. is_looked_at s h t x.kind) e))

-- the same over the pairs of a name, each as one more attribute
abbrev pub match_on_name : SchemaModel → How → Option ℕ → List ℕ → List RdnModel → Truth
match_on_name s h t a n = disjunction (map (match_on_pair s h a) (filter (λ p. is_looked_at s h t p.kind) (pairs_of n)))

-- Undefined where no type is matched so; else True, False or Undefined by the entry's values, and by its name where
-- dnAttributes asks for that
abbrev pub match_with : SchemaModel → How → Option ℕ → List ℕ → Bool → List RdnModel → List AttributeModel → Truth
match_with s h t a dn n e = cond (is_matched s h t a) (truth_or (match_on_entry s h t a e)
    (cond dn (match_on_name s h t a n) False)) Undefined

-- Undefined where the rule or the type is unknown
abbrev pub match_by : SchemaModel → Option How → ExtensibleValue → List RdnModel → List AttributeModel → Truth
match_by s None x n e = Undefined
match_by s (Some h) x n e = option_map_or (λ t. match_with s h t x.match_value x.dn_attributes n e)
    (type_of s x.description) Undefined

-- An extensible item on an entry: Undefined, where it can't be matched; else the `or` of the item on each attribute
-- that it looks at and, if it asks for the name too, on each pair of the entry's name (RFC 4511 4.5.1.7.7).
abbrev pub extensible_value : SchemaModel → ExtensibleValue → List RdnModel → List AttributeModel → Truth
extensible_value s x n e = match_by s (how_of x.matching_rule) x n e

-- an item of a filter on an entry
abbrev pub wire_item_value : SchemaModel → filter_item.Item → List RdnModel → List AttributeModel → Truth
wire_item_value s (filter_item.comparison k d a) n e = item_value s d (asked_by k a) e
wire_item_value s (filter_item.substrings x) n e = item_value s x.description (substrings (parts_of x)) e
wire_item_value s (filter_item.presence d) n e = item_value s d present e
wire_item_value s (filter_item.extensible x) n e = extensible_value s x n e

abbrev mutual
  -- The value of a filter on an entry, by its name and its attributes (RFC 4511 4.5.1.7).
  pub filter_value : SchemaModel → Tree → List RdnModel → List AttributeModel → Truth
  filter_value s (conj ts) n e = all_value s ts n e
  filter_value s (disj ts) n e = any_value s ts n e
  filter_value s (negation t) n e = truth_not (filter_value s t n e)
  filter_value s (item i) n e = wire_item_value s i n e

  -- the `and` of filters
  pub all_value : SchemaModel → Trees → List RdnModel → List AttributeModel → Truth
  all_value s no_trees n e = True
  all_value s (tree t ts) n e = truth_and (filter_value s t n e) (all_value s ts n e)

  -- the `or` of filters
  pub any_value : SchemaModel → Trees → List RdnModel → List AttributeModel → Truth
  any_value s no_trees n e = False
  any_value s (tree t ts) n e = truth_or (filter_value s t n e) (any_value s ts n e)
