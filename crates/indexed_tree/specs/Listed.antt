-- The tree with posting lists: its entries as indexes see them. How lists are kept is below.
use Rattle.std.specs.Prelude.{◌≡◌, ℕ, List, Some, map}
use Rattle.std.specs.Option.{option_map}
use Rattle.dir_index.specs.index_choice.declared.kinds.Kinds.{Kinds}
use Rattle.dir_index.specs.dir_entry.Entry.{KeyedAttribute}
use Rattle.dir_index.specs.Postings.{Indexed, Lists, postings_of}
use Rattle.dir_index.specs.Whole.{AreSameBut}
use Rattle.indexed_tree.specs.Directory.{Directory}
use Rattle.directory_api.specs.dir_tree.Directory.{Entered, TreeModel, entry_at}

-- an entry as indexes see it
abbrev pub listed : Entered → Indexed
listed e = record { number = e.number; entry = e.entry }

-- the entries as indexes see them
abbrev pub listed_of : List Entered → List Indexed
listed_of d = map listed d

-- the entry of a number, if there is one, is the same as this one but for attributes of some types and some named values
abbrev pub IsSameBut : List ℕ → List KeyedAttribute → ℕ → List Entered → List KeyedAttribute → Type 0
IsSameBut types named number d entry = (a : List KeyedAttribute) → option_map (λ e. e.entry) (entry_at number d) ≡
    Some a → AreSameBut types named a entry

-- an index choice, and a tree whose entries have posting lists under it
pub record IndexedModel : Type 0 where
  pub indexes : List Kinds
  pub tree : TreeModel

-- the posting lists of its entries
abbrev pub lists_of : IndexedModel → Lists
lists_of t = postings_of t.indexes (listed_of t.tree.entries)

-- what a store has: the directory, and the index choice under which its entries are listed
pub record StoreModel : Type 0 where
  pub directory : Directory
  pub indexes : List Kinds
