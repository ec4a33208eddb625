-- A modifyDN once its names are read: what is asked of which entry, and what a rename needs.
use Rattle.std.specs.Prelude.{◌≡◌, ℕ, Bool, true, false, Some, is_some}
use Rattle.std.specs.Option.{option_map}
use Rattle.indexed_tree.specs.ldap_dn.Names.{RdnModel, rdns}
use Rattle.indexed_tree.specs.ldap_schema.Schema.{SchemaModel}
use Rattle.indexed_tree.specs.dir_entry.Entry.{IsKeyedBy}
use Rattle.indexed_tree.specs.dir_tree.Directory.{NameKey, Entered, TreeModel, name_eq, begins, find, above}
use Rattle.indexed_tree.specs.Stored.{AreKeyedBy}

-- an entry of a tree under a schema, the relative name that it is to have, and whether the values of its old one go
pub record MoveAsked : Type 0 where
  pub schema : SchemaModel
  pub tree : TreeModel
  pub delete_old : Bool
  pub entry : Entered
  pub rdn : RdnModel

-- the entry is one of the tree's, and all keys are those of the schema
pub record IsOfTree (m : MoveAsked) : Type 0 where
  pub keyed : AreKeyedBy m.schema m.tree.entries
  pub entry : IsKeyedBy m.schema m.entry.entry
  pub here : find (rdns m.entry.name) m.tree.entries ≡ Some m.entry

-- The entry of the number and the name is there, and is not the root's; right above the new name stands an entry that
-- is neither this one nor below it; and no other entry has the new name.
pub record MayMove (t : TreeModel) (number : ℕ) (before after : NameKey) : Type 0 where
  pub here : option_map (λ e. e.number) (find before t.entries) ≡ Some number
  pub root : name_eq before (rdns t.suffix) ≡ false
  pub parent : is_some (find (above after) t.entries) ≡ true
  pub apart : begins before (above after) ≡ false
  pub free : is_some (find after t.entries) ≡ true → name_eq before after ≡ true
