-- The value of a bound filter on the keys of an entry, and what it is bound to: what contracts that aren't public say
-- of it. What public contracts say is in specs/Bound.
use Rattle.std.specs.Prelude.{ℕ, List, [], ◌∷◌, ◌≡◌}
use Rattle.dir_entry.specs.ldap_schema.Schema.{SchemaModel}
use Rattle.dir_entry.specs.ldap_match.Item.{Item}
use Rattle.dir_entry.specs.Entry.{KeyedAttribute, attributes_of, IsKeyedBy}
use Rattle.ldap_filter.specs.Tree.{Trees, no_trees, tree}
use Rattle.dir_entry.specs.ldap_dn.Names.{RdnModel}
use Rattle.ldap_filter.specs.Item.{ExtensibleValue}
use Rattle.ldap_eval.specs.Value.{item_value, extensible_value}
use Rattle.ldap_eval.specs.declared.bound.BoundFilter.{BoundFilter}
use Rattle.ldap_eval.specs.Bound.{bound_value, IsBoundTo}

-- A bound item has the item's value on every entry that is keyed by the schema.
abbrev pub IsBoundItem : SchemaModel → List ℕ → Item → BoundFilter → Type 0
IsBoundItem s description item b = (n : List RdnModel) (e : List KeyedAttribute) → IsKeyedBy s e → bound_value n e b ≡
    item_value s description item (attributes_of e)

-- the same of an extensible item
abbrev pub IsBoundMatch : SchemaModel → ExtensibleValue → BoundFilter → Type 0
IsBoundMatch s x b = (n : List RdnModel) (e : List KeyedAttribute) → IsKeyedBy s e → bound_value n e b ≡
    extensible_value s x n (attributes_of e)

-- bound filters stand for filters, one by one
abbrev pub AreBoundTo : SchemaModel → Trees → List BoundFilter → Type 0
AreBoundTo s no_trees [] = Unit {0}
AreBoundTo s no_trees (b ∷ bs) = ⊥
AreBoundTo s (tree t ts) [] = ⊥
AreBoundTo s (tree t ts) (b ∷ bs) = IsBoundTo s t b × AreBoundTo s ts bs
