-- What a bound filter is made of. Only the plans that are made of bound filters, and those who count what they leave
-- open, look at it.
use Rattle.std.specs.Prelude.{◌≡◌, ℕ, List, [], ◌∷◌, Bool, true, false, not, cond, ◌&&◌, Option, None, Some, is_some, Vec, Box}
use Rattle.std.specs.Global.{Global}
use Rattle.dir_entry.specs.ldap_schema.Schema.{SchemaModel, find}
use Rattle.dir_entry.specs.ldap_match.Item.{Item, present, equal, substrings, is_answerable}
use Rattle.ldap_eval.specs.declared.naming_rules.How.{How}
use Rattle.ldap_eval.specs.declared.naming_rules.How.TheVariants as how
use Rattle.dir_entry.specs.ldap_schema.Rules.{equality_of}
use Rattle.ldap_filter.specs.Item as filter_item
use Rattle.ldap_filter.specs.Item.{ExtensibleValue}
use Rattle.ldap_filter.specs.Tree.{Tree, conj, disj, negation, item, Trees, no_trees, tree}
use Rattle.ldap_eval.specs.Value.{asked_by, parts_of, how_of, type_of, is_matched}
use Rattle.ldap_eval.specs.Bound.{leaves_for, matches_with, IsBoundTo}
use Rattle.ldap_eval.specs.declared.bound.BoundFilter.{BoundFilter}
use Rattle.ldap_eval.specs.declared.bound.BoundFilter.TheVariants as bound
use Rattle.std.specs.Option.{option_flatten}

-- an `and` of bound filters, of which this holds
pub record IsAndOf (P : List BoundFilter → Type 0) (b : BoundFilter) : Type 0 where
  pub parts : Vec BoundFilter Global
  pub is : b ≡ bound.And parts
  pub hold : P parts.items

-- an `or` of bound filters, of which this holds
pub record IsOrOf (P : List BoundFilter → Type 0) (b : BoundFilter) : Type 0 where
  pub parts : Vec BoundFilter Global
  pub is : b ≡ bound.Or parts
  pub hold : P parts.items

-- the negation of a bound filter, of which this holds
pub record IsNotOf (P : BoundFilter → Type 0) (b : BoundFilter) : Type 0 where
  pub part : Box BoundFilter Global
  pub is : b ≡ bound.Not part
  pub hold : P part.value

-- An item on a type is the `or` of its leaves, one for each type under the type; Undefined, where the type can't answer
-- it.
pub record IsItemOn (s : SchemaModel) (asked : Item) (t : ℕ) (b : BoundFilter) : Type 0 where
  pub answered : is_answerable s asked t ≡ true → IsOrOf (λ bs. bs ≡ leaves_for s asked t) b
  pub unanswered : is_answerable s asked t ≡ false → b ≡ bound.Undefined

-- the same of the type of a description; Undefined, where it is not recognised
abbrev pub IsItemFor : SchemaModel → Item → Option ℕ → BoundFilter → Type 0
IsItemFor s asked None b = b ≡ bound.Undefined
IsItemFor s asked (Some t) b = IsItemOn s asked t b

-- a type with an EQUALITY rule, where the name is not asked for
abbrev pub type_with_equality : SchemaModel → Bool → Option ℕ → Option ℕ
type_with_equality s in_name None = None
type_with_equality s in_name (Some t) = cond (not in_name && is_some (equality_of s t)) (Some t) None

-- Whether an extensible item is an equality item: it names a type and no rule, does not ask for the name's pairs, and
-- the type has an EQUALITY rule.
abbrev pub is_equality_item : SchemaModel → ExtensibleValue → Option How → Option (Option ℕ) → Bool
is_equality_item s x (Some how.Own) (Some t) = is_some (type_with_equality s x.dn_attributes t)
is_equality_item s x h t = false

-- an extensible item that can be matched is the `or` of its matches, one for each type that it looks at; Undefined,
-- where it can't
pub record IsMatchOn (s : SchemaModel) (h : How) (t : Option ℕ) (a : List ℕ) (dn : Bool) (b : BoundFilter) :
    Type 0 where
  pub matched : is_matched s h t a ≡ true → IsOrOf (λ bs. bs ≡ matches_with s h t a dn) b
  pub unmatched : is_matched s h t a ≡ false → b ≡ bound.Undefined

-- undefined where the rule or the type is unknown, else what the match is on them
abbrev pub IsMatchFor : SchemaModel → ExtensibleValue → Option How → Option (Option ℕ) → BoundFilter → Type 0
IsMatchFor s x None t b = b ≡ bound.Undefined
IsMatchFor s x (Some h) None b = b ≡ bound.Undefined
IsMatchFor s x (Some h) (Some t) b = IsMatchOn s h t x.match_value x.dn_attributes b

-- an extensible item: the equality item that it is, else its matches
pub record IsExtensible (s : SchemaModel) (x : ExtensibleValue) (h : Option How) (t : Option (Option ℕ))
    (b : BoundFilter) : Type 0 where
  pub equality : is_equality_item s x h t ≡ true → IsItemFor s (equal x.match_value) (option_flatten t) b
  pub residual : is_equality_item s x h t ≡ false → IsMatchFor s x h t b

-- an item of a filter
abbrev pub IsMadeOfItem : SchemaModel → filter_item.Item → BoundFilter → Type 0
IsMadeOfItem s (filter_item.comparison k d a) b = IsItemFor s (asked_by k a) (find s d) b
IsMadeOfItem s (filter_item.substrings x) b = IsItemFor s (substrings (parts_of x)) (find s x.description) b
IsMadeOfItem s (filter_item.presence d) b = IsItemFor s present (find s d) b
IsMadeOfItem s (filter_item.extensible x) b = IsExtensible s x (how_of x.matching_rule) (type_of s x.description) b

abbrev mutual
  -- A bound filter is made of a filter, part by part: an `and`, an `or` and a negation of what their parts make, and
  -- items.
  pub IsMadeOf : SchemaModel → Tree → BoundFilter → Type 0
  IsMadeOf s (conj ts) b = IsAndOf (λ bs. AreMadeOf s ts bs) b
  IsMadeOf s (disj ts) b = IsOrOf (λ bs. AreMadeOf s ts bs) b
  IsMadeOf s (negation t) b = IsNotOf (λ x. IsMadeOf s t x) b
  IsMadeOf s (item i) b = IsMadeOfItem s i b

  -- bound filters are made of filters and stand for them, one by one
  pub AreMadeOf : SchemaModel → Trees → List BoundFilter → Type 0
  AreMadeOf s no_trees [] = Unit {0}
  AreMadeOf s no_trees (b ∷ bs) = ⊥
  AreMadeOf s (tree t ts) [] = ⊥
  AreMadeOf s (tree t ts) (b ∷ bs) = IsBoundTo s t b × IsMadeOf s t b × AreMadeOf s ts bs
