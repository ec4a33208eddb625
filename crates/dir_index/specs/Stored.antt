-- What is kept of posting lists, without its memory.
use Rattle.std.specs.Prelude.{ℕ, List, []}
use Rattle.std.specs.Map.{lookup}
use Rattle.std.specs.BTreeMap.{is_at}
use Rattle.std.specs.Option.{unwrap_or}
use Rattle.dir_index.specs.declared.list_key.ListKey.{ListKey}
use Rattle.dir_index.specs.ListKeys.{list_order}

-- the lists by their keys
abbrev pub ListRows : Type 0
ListRows = List (ListKey × List ℕ)

-- the list of a key; one that isn't there is empty
abbrev pub list_at : ListRows → ListKey → List ℕ
list_at ls k = unwrap_or (lookup (is_at (list_order k)) ls) []
