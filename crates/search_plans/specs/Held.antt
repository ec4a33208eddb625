-- Which entries hold the runs of octets that a filter asks for.
use Rattle.std.specs.Prelude.{ℕ, List, Bool, true, false, not, cond, ◌&&◌, ◌||◌, nat_eq, map, encode_utf8_all, Option, None, Some}
use Rattle.std.specs.List.{list_any, list_all}
use Rattle.ldap_eval.specs.ldap_syntax.Meaning.{Meaning, number, text, truth, octets, identifier, name}
use Rattle.ldap_eval.specs.ldap_words.declared.rule.Rule.{Rule}
use Rattle.ldap_eval.specs.dir_entry.ldap_schema.Schema.{SchemaModel, find}
use Rattle.ldap_eval.specs.ldap_filter.Item as filter_item
use Rattle.ldap_eval.specs.ldap_filter.Item.{ExtensibleValue}
use Rattle.ldap_eval.specs.ldap_filter.Tree.{Tree, conj, disj, negation, item, Trees, no_trees, tree}
use Rattle.ldap_eval.specs.ldap_match.Meaning.{meaning}
use Rattle.ldap_eval.specs.ldap_match.Parts.{PartsModel}
use Rattle.ldap_eval.specs.ldap_match.Item.{Item, present, equal, at_least, at_most, substrings, substrings_of, prepared_parts, is_answerable}
use Rattle.ldap_eval.specs.declared.naming_rules.How.{How}
use Rattle.ldap_eval.specs.dir_entry.Entry.{AttributeModel}
use Rattle.ldap_eval.specs.Value.{asked_by, parts_of, how_of, type_of}
use Rattle.ldap_eval.specs.Made.{is_equality_item}
use Rattle.dir_index.specs.index_choice.declared.kinds.Kinds.{Kinds}
use Rattle.dir_index.specs.index_choice.Choice.{kinds_of}
use Rattle.dir_index.specs.Postings.{stands_in}
use Rattle.search_plans.specs.OctetRuns.{asked_runs}
use Rattle.search_plans.specs.Decided.{types_under, is_left_open}
use Rattle.ldap_eval.specs.ldap_words.Octets.{utf8_of}
use Rattle.std.specs.Option.{option_flatten}

-- prepared parts, each in UTF-8
abbrev pub utf8_parts : PartsModel → PartsModel
utf8_parts p = record { initial = utf8_of p.initial; any = map encode_utf8_all p.any; last = utf8_of p.last }

-- whether octets stand in the UTF-8 of the text that a value means
abbrev pub stands_in_text : List ℕ → Option Meaning → Bool
stands_in_text g None = false
stands_in_text g (Some (text t)) = stands_in g (encode_utf8_all t)
stands_in_text g (Some (number a)) = false
stands_in_text g (Some (truth a)) = false
stands_in_text g (Some (octets a)) = false
stands_in_text g (Some (identifier a)) = false
stands_in_text g (Some (name a)) = false

-- whether octets stand in the prepared text of some value of a type
abbrev pub stands_in_some : SchemaModel → Rule → ℕ → List ℕ → List AttributeModel → Bool
stands_in_some s r u g e = list_any (λ a. nat_eq a.kind u && list_any (λ v. stands_in_text g (meaning s r v))
    a.values) e

-- whether an entry has, in values of a type, each run of three octets that a plan asks for: the first 64 of the
-- prepared parts, each once
abbrev pub has_part_runs : SchemaModel → Rule → ℕ → PartsModel → List AttributeModel → Bool
has_part_runs s r u p e = list_all (λ g. stands_in_some s r u g e) (asked_runs (utf8_parts p))

-- the same as far as there is a substrings index for the type; of no entry, where a part is no part of the syntax's
-- values
abbrev pub has_prepared_runs : SchemaModel → List Kinds → Rule → ℕ → Option PartsModel → List AttributeModel → Bool
has_prepared_runs s ix r u None e = false
has_prepared_runs s ix r u (Some p) e = not (kinds_of ix u).substrings || has_part_runs s r u p e

-- the same by the SUBSTR rule of the type; of no entry, where the type lacks it
abbrev pub has_runs_by : SchemaModel → List Kinds → Option Rule → ℕ → PartsModel → List AttributeModel → Bool
has_runs_by s ix None u p e = false
has_runs_by s ix (Some r) u p e = has_prepared_runs s ix r u (prepared_parts r p) e

-- Whether an entry holds the runs of three octets that an item asks of a type, as far as there is a substrings index
-- for the type; of other items each entry does, if the type can answer the item.
abbrev pub has_runs_on : SchemaModel → List Kinds → Item → ℕ → List AttributeModel → Bool
has_runs_on s ix present u e = true
has_runs_on s ix (equal a) u e = is_answerable s (equal a) u
has_runs_on s ix (at_least a) u e = is_answerable s (at_least a) u
has_runs_on s ix (at_most a) u e = is_answerable s (at_most a) u
has_runs_on s ix (substrings p) u e = has_runs_by s ix (substrings_of s u) u p e

-- the same of a type under an item's type; of no entry, where the item is Undefined on every entry
abbrev pub has_runs_of_item : SchemaModel → List Kinds → List AttributeModel → Item → Option ℕ → Bool
has_runs_of_item s ix e asked None = false
has_runs_of_item s ix e asked (Some t) = is_answerable s asked t && list_any (λ u. has_runs_on s ix asked u e)
    (types_under s t)

-- of an extensible item, as of the equality item that it is, else of any entry, unless it is Undefined on every one
abbrev pub has_runs_of_extensible : SchemaModel → List Kinds → List AttributeModel → ExtensibleValue → Option How →
    Option (Option ℕ) → Bool
has_runs_of_extensible s ix e x h t = cond (is_equality_item s x h t) (has_runs_of_item s ix e (equal x.match_value)
    (option_flatten t)) (is_left_open s x h t)

-- whether the lists of an item have the runs that the entry's values have
abbrev pub has_runs_of_wire_item : SchemaModel → List Kinds → List AttributeModel → filter_item.Item → Bool
has_runs_of_wire_item s ix e (filter_item.comparison k d a) = has_runs_of_item s ix e (asked_by k a) (find s d)
has_runs_of_wire_item s ix e (filter_item.substrings x) = has_runs_of_item s ix e (substrings (parts_of x))
    (find s x.description)
has_runs_of_wire_item s ix e (filter_item.presence d) = has_runs_of_item s ix e present (find s d)
has_runs_of_wire_item s ix e (filter_item.extensible x) = has_runs_of_extensible s ix e x (how_of x.matching_rule)
    (type_of s x.description)

abbrev mutual
  -- Whether an entry holds the runs of three octets that a filter asks for: of an `and` those of each part, of an `or`
  -- those of some part.
  pub has_runs : SchemaModel → List Kinds → List AttributeModel → Tree → Bool
  has_runs s ix e (conj ts) = has_all_runs s ix e ts
  has_runs s ix e (disj ts) = has_some_runs s ix e ts
  has_runs s ix e (negation t) = true
  has_runs s ix e (item i) = has_runs_of_wire_item s ix e i

  pub has_all_runs : SchemaModel → List Kinds → List AttributeModel → Trees → Bool
  has_all_runs s ix e no_trees = true
  has_all_runs s ix e (tree t ts) = has_runs s ix e t && has_all_runs s ix e ts

  pub has_some_runs : SchemaModel → List Kinds → List AttributeModel → Trees → Bool
  has_some_runs s ix e no_trees = false
  has_some_runs s ix e (tree t ts) = has_runs s ix e t || has_some_runs s ix e ts
