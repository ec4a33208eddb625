-- Types of attributes one after another.
use Rattle.std.proofs.Common.{◌≡◌, ◌||◌, ℕ, Bool, List, [], ◌∷◌, refl, ap}
use Rattle.std.specs.List.{list_any}
use Rattle.indexed_tree.specs.ldap_schema.Schema.{SchemaModel, is_under}
use Rattle.indexed_tree.specs.dir_entry.Entry.{KeyedAttribute, attributes_of}
use Rattle.dir_search.specs.Compared.{has_under}

-- whether some attribute is under a type is asked of types alone
pub some_under : (s : SchemaModel) (t : ℕ) (e : List KeyedAttribute) → list_any (λ a. is_under s a.kind t) e ≡
    has_under s t (attributes_of e)
some_under s t [] = refl
some_under s t (a ∷ e) = ap (λ (b : Bool). is_under s a.kind t || b) (some_under s t e)
