-- One version of the directory.
use Rattle.std.specs.Prelude.{◌≡◌, ℕ, length}
use Rattle.state_machine.specs.indexed_tree.Listed.{StoreModel}
use Rattle.state_machine.specs.Executing.{ExecutedValue, directory_at}

-- A store has the directory after what was executed, and so many records were.
pub record IsAfter (store : StoreModel) (count : ℕ) (executed : ExecutedValue) : Type 0 where
  pub directory : store.directory ≡ directory_at executed
  pub indexes : store.indexes ≡ executed.indexes
  pub records : count ≡ length executed.records
