-- The value of a bound filter on the keys of an entry, and what it is bound to. Only the evaluation of filters, and the
-- plans made of bound filters, look at it.
use Rattle.std.specs.Prelude.{ℕ, ◌+◌, List, [], ◌∷◌, ◌++◌, Bool, true, false, cond, map, nat_eq, Option, ◌≡◌}
use Rattle.dir_entry.specs.ldap_schema.Schema.{SchemaModel, TypeModel, is_under}
use Rattle.dir_entry.specs.ldap_match.Truth.{truth_not, conjunction, disjunction}
use Rattle.dir_entry.specs.ldap_match.Item.{Item}
use Rattle.dir_entry.specs.ldap_match.Keyed.{test_value, test_for}
use Rattle.dir_entry.specs.ldap_match.declared.truth.Truth.{Truth}
use Rattle.dir_entry.specs.ldap_match.declared.truth.Truth.TheVariants.{False, Undefined}
use Rattle.dir_entry.specs.Entry.{KeyedAttribute, attributes_of, IsKeyedBy}
use Rattle.ldap_filter.specs.Tree.{Tree}
use Rattle.ldap_eval.specs.Matched.{match_for, match_value, match_pair}
use Rattle.ldap_eval.specs.declared.naming_rules.How.{How}
use Rattle.dir_entry.specs.ldap_dn.Names.{RdnModel}
use Rattle.dir_entry.specs.ldap_dn.Pairs.{PairModel, pairs_of}
use Rattle.ldap_eval.specs.Value.{is_looked_at, filter_value}
use Rattle.ldap_eval.specs.declared.bound.Leaf.{Leaf}
use Rattle.ldap_eval.specs.declared.bound.Match.{Match}
use Rattle.ldap_eval.specs.declared.bound.BoundFilter.{BoundFilter, fold-BoundFilter}
use Rattle.ldap_eval.specs.declared.bound.BoundFilter.TheVariants as bound
use Rattle.ldap_eval.specs.declared.bound.BoundFilter.TheOpen.{BoundFilter-F}

-- a leaf on one attribute: its test, where the attribute is of its type, else False
abbrev pub leaf_on : Leaf → KeyedAttribute → Truth
leaf_on leaf a = cond (nat_eq a.kind leaf.type_id) (test_value leaf.test a.keys) False

-- a leaf on an entry: the `or` over the attributes
abbrev pub leaf_value : List KeyedAttribute → Leaf → Truth
leaf_value e leaf = disjunction (map (leaf_on leaf) e)

-- a match on one attribute: its test, where the attribute is of its type, else False
abbrev pub match_on : Match → KeyedAttribute → Truth
match_on m a = cond (nat_eq a.kind m.type_id) (match_value m.test a.values a.keys) False

-- a match on one pair of a name
abbrev pub match_on_name_pair : Match → PairModel → Truth
match_on_name_pair m p = cond (nat_eq p.kind m.type_id) (match_pair m.test p) False

-- a match on an entry: the `or` over the pairs of its name, or over its attributes
abbrev pub match_of_entry : List RdnModel → List KeyedAttribute → Match → Truth
match_of_entry n e m = cond m.in_name (disjunction (map (match_on_name_pair m) (pairs_of n)))
    (disjunction (map (match_on m) e))

-- one level, with each part already valued
abbrev pub value_step : List RdnModel → List KeyedAttribute → BoundFilter-F Truth → Truth
value_step n e (BoundFilter-F.And v) = conjunction v.items
value_step n e (BoundFilter-F.Or v) = disjunction v.items
value_step n e (BoundFilter-F.Not b) = truth_not b.value
value_step n e BoundFilter-F.Undefined = Undefined
value_step n e (BoundFilter-F.Leaf leaf) = leaf_value e leaf
value_step n e (BoundFilter-F.Match m) = match_of_entry n e m

-- the value of a bound filter on an entry, by its name and its attributes
abbrev pub bound_value : List RdnModel → List KeyedAttribute → BoundFilter → Truth
bound_value n e = fold-BoundFilter Truth (value_step n e)

-- one leaf more, or not
abbrev pub leaf_if : Bool → BoundFilter → List BoundFilter → List BoundFilter
leaf_if true leaf leaves = leaf ∷ leaves
leaf_if false leaf leaves = leaves

-- from a number on, a leaf for each type under a type, with the test that an item makes of it
abbrev pub leaves_from : SchemaModel → Item → ℕ → List TypeModel → ℕ → List BoundFilter
leaves_from s item t [] i = []
leaves_from s item t (x ∷ xs) i = leaf_if (is_under s i t)
    (bound.Leaf (record { type_id = i; test = test_for s item i })) (leaves_from s item t xs (i + 1))

-- a leaf for each type under a type
abbrev pub leaves_for : SchemaModel → Item → ℕ → List BoundFilter
leaves_for s item t = leaves_from s item t s.types 0

-- from the i-th type on, a leaf for each type that the match looks at
abbrev pub matches_from : SchemaModel → How → Option ℕ → List ℕ → Bool → List TypeModel → ℕ → List BoundFilter
matches_from s h t a dn [] i = []
matches_from s h t a dn (x ∷ xs) i =
    leaf_if (is_looked_at s h t i) (bound.Match (record { type_id = i; test = match_for s h a i; in_name = dn }))
    (matches_from s h t a dn xs (i + 1))

-- a match for each type that an extensible item looks at, on the attributes or on the name's pairs
abbrev pub matches_for : SchemaModel → How → Option ℕ → List ℕ → Bool → List BoundFilter
matches_for s h t a dn = matches_from s h t a dn s.types 0

-- the same on the attributes, and if the item asks for it on the name's pairs too
abbrev pub matches_with : SchemaModel → How → Option ℕ → List ℕ → Bool → List BoundFilter
matches_with s h t a dn = matches_for s h t a false ++ cond dn (matches_for s h t a true) []

-- A bound filter stands for a filter under a schema: it has the filter's value on every entry that is keyed by the
-- schema.
abbrev pub IsBoundTo : SchemaModel → Tree → BoundFilter → Type 0
IsBoundTo s t b = (n : List RdnModel) (e : List KeyedAttribute) → IsKeyedBy s e → bound_value n e b ≡ filter_value s t
    n (attributes_of e)
