-- Which filters the indexes decide.
use Rattle.std.specs.Prelude.{ℕ, ◌+◌, List, [], ◌∷◌, Bool, true, false, not, cond, ◌&&◌, ◌||◌, Option, None, Some}
use Rattle.std.specs.List.{list_all}
use Rattle.ldap_eval.specs.dir_entry.ldap_schema.Schema.{SchemaModel, TypeModel, find, is_under}
use Rattle.ldap_eval.specs.ldap_filter.Item as filter_item
use Rattle.ldap_eval.specs.ldap_filter.Item.{ExtensibleValue}
use Rattle.ldap_eval.specs.ldap_filter.Tree.{Tree, conj, disj, negation, item, Trees, no_trees, tree}
use Rattle.ldap_eval.specs.ldap_match.Item.{Item, present, equal, at_least, at_most, substrings, is_answerable}
use Rattle.ldap_eval.specs.declared.naming_rules.How.{How}
use Rattle.ldap_eval.specs.Value.{asked_by, parts_of, how_of, type_of, is_matched, is_looked_at}
use Rattle.ldap_eval.specs.Made.{is_equality_item}
use Rattle.dir_index.specs.index_choice.declared.kinds.Kinds.{Kinds}
use Rattle.dir_index.specs.index_choice.Choice.{kinds_of}
use Rattle.std.specs.Option.{option_flatten}

-- one more in front, or not
abbrev pub put_if : Bool → ℕ → List ℕ → List ℕ
put_if true t ts = t ∷ ts
put_if false t ts = ts

-- from a number on, the types under a type
abbrev pub types_from : SchemaModel → ℕ → List TypeModel → ℕ → List ℕ
types_from s t [] i = []
types_from s t (x ∷ xs) i = put_if (is_under s i t) i (types_from s t xs (i + 1))

-- the types under a type, which is one of them (RFC 4512 2.5.1)
abbrev pub types_under : SchemaModel → ℕ → List ℕ
types_under s t = types_from s t s.types 0

-- whether a type has the index that an item asks for; an index of values in order tells equal values too, and none
-- tells substrings
abbrev pub has_index_for : List Kinds → Item → ℕ → Bool
has_index_for ix present u = (kinds_of ix u).presence
has_index_for ix (equal a) u = (kinds_of ix u).equality || (kinds_of ix u).ordering
has_index_for ix (at_least a) u = (kinds_of ix u).ordering
has_index_for ix (at_most a) u = (kinds_of ix u).ordering
has_index_for ix (substrings p) u = false

-- whether the indexes of a type decide an item on its own attributes: by the index that the item asks for, or by a
-- presence index where the type can't answer the item
abbrev pub is_decided_on : SchemaModel → List Kinds → Item → ℕ → Bool
is_decided_on s ix asked u = cond (is_answerable s asked u) (has_index_for ix asked u) (kinds_of ix u).presence

-- Whether the indexes decide an item: it is Undefined on every entry, or the indexes of each type under its type decide
-- it.
abbrev pub is_item_decided : SchemaModel → List Kinds → Item → Option ℕ → Bool
is_item_decided s ix asked None = true
is_item_decided s ix asked (Some t) = not (is_answerable s asked t) || list_all (is_decided_on s ix asked)
    (types_under s t)

-- whether the match looks at one of these types, the first of which has this number
abbrev pub looks_from : SchemaModel → How → Option ℕ → List TypeModel → ℕ → Bool
looks_from s h t [] i = false
looks_from s h t (x ∷ xs) i = is_looked_at s h t i || looks_from s h t xs (i + 1)

-- whether an extensible item looks at some type of the schema
abbrev pub looks_at_some : SchemaModel → How → Option ℕ → Bool
looks_at_some s h t = looks_from s h t s.types 0

-- whether an extensible item can be matched, and so is to be evaluated on each entry in scope
abbrev pub is_left_open : SchemaModel → ExtensibleValue → Option How → Option (Option ℕ) → Bool
is_left_open s x None t = false
is_left_open s x (Some h) None = false
is_left_open s x (Some h) (Some t) = is_matched s h t x.match_value && looks_at_some s h t

-- Whether the indexes decide an extensible item: as the equality item that it is, else only where it can't be matched,
-- and is Undefined on every entry.
abbrev pub is_extensible_decided : SchemaModel → List Kinds → ExtensibleValue → Option How → Option (Option ℕ) → Bool
is_extensible_decided s ix x h t = cond (is_equality_item s x h t) (is_item_decided s ix (equal x.match_value)
    (option_flatten t)) (not (is_left_open s x h t))

-- whether an item's value is decided by the lists alone
abbrev pub is_wire_item_decided : SchemaModel → List Kinds → filter_item.Item → Bool
is_wire_item_decided s ix (filter_item.comparison k d a) = is_item_decided s ix (asked_by k a) (find s d)
is_wire_item_decided s ix (filter_item.substrings x) = is_item_decided s ix (substrings (parts_of x))
    (find s x.description)
is_wire_item_decided s ix (filter_item.presence d) = is_item_decided s ix present (find s d)
is_wire_item_decided s ix (filter_item.extensible x) = is_extensible_decided s ix x (how_of x.matching_rule)
    (type_of s x.description)

abbrev mutual
  -- Whether the indexes decide a filter: they decide each of its items.
  pub is_decided : SchemaModel → List Kinds → Tree → Bool
  is_decided s ix (conj ts) = are_decided s ix ts
  is_decided s ix (disj ts) = are_decided s ix ts
  is_decided s ix (negation t) = is_decided s ix t
  is_decided s ix (item i) = is_wire_item_decided s ix i

  pub are_decided : SchemaModel → List Kinds → Trees → Bool
  are_decided s ix no_trees = true
  are_decided s ix (tree t ts) = is_decided s ix t && are_decided s ix ts
