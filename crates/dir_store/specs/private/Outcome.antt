-- What becomes of a store that an update is made of.
use Rattle.std.specs.Prelude.{◌≡◌, List, Result, Ok, Err}
use Rattle.indexed_tree.specs.Directory.{NamedEntry}
use Rattle.indexed_tree.specs.Listed.{StoreModel}
use Rattle.indexed_tree.specs.directory_api.Answers.{ReplyModel}
use Rattle.indexed_tree.specs.directory_api.View.{reply_view}
use Rattle.dir_store.specs.declared.store.Outcome.{Outcome}
use Rattle.dir_store.specs.declared.store.Outcome.TheVariants.{Made, Refused}

-- the store has the entries that were asked for, and all else is as it was; or it is as it was, and the reply says why
abbrev pub IsOutcome : StoreModel → Result (List NamedEntry) ReplyModel → Outcome → Type 0
IsOutcome s asked (Made t) = (asked ≡ Ok t.directory.entries) × (t.directory.schema ≡ s.directory.schema)
    × (t.directory.suffix ≡ s.directory.suffix) × (t.indexes ≡ s.indexes)
IsOutcome s asked (Refused t reply) = (t ≡ s) × (asked ≡ Err (reply_view reply))
