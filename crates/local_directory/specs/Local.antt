-- The directory of one server alone, as it is seen from above.
use Rattle.std.specs.Prelude.{ℕ}
use Rattle.std.specs.FinMap as map
use Rattle.dir_store.specs.indexed_tree.Directory.{Directory}
use Rattle.dir_store.specs.directory_api.log_entry.ClientOrder.{client_cmp}
use Rattle.local_directory.specs.Latest.{KeptValue}

-- the directory, the number of its last update, and what each client's latest request was answered with
pub record LocalValue : Type 0 where
  pub directory : Directory
  pub number : ℕ
  pub latest : map.FinMap client_cmp KeptValue
