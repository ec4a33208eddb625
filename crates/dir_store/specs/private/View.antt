-- What refusals, and what updates ask for, stand for in memory.
use Rattle.std.specs.Prelude.{◌≡◌, Result, Err}
use Rattle.indexed_tree.specs.dir_entry.Entry.{attributes_of}
use Rattle.indexed_tree.specs.directory_api.Answers.{ReplyModel}
use Rattle.dir_store.specs.Updates.{PlacedModel, KeptModel, MoveModel, MoveNamesModel}
use Rattle.dir_store.specs.declared.adding.Placed.{Placed}
use Rattle.dir_store.specs.declared.modifying.ChangedEntry.{ChangedEntry}
use Rattle.dir_store.specs.declared.renaming.Moved.{Moved}
use Rattle.dir_store.specs.declared.renaming.MoveNames.{MoveNames}
use Rattle.indexed_tree.specs.directory_api.View.{reply_view}
use Rattle.dir_store.specs.declared.fault.StoreError.{StoreError}
use Rattle.dir_store.specs.declared.fault.StoreError.TheVariants.{Refused, NoMemory}

-- it is refused with this reply; of want of memory nothing
abbrev pub RefusedWith : {A : Type 0} → StoreError → Result A ReplyModel → Type 0
RefusedWith (Refused reply) asked = asked ≡ Err (reply_view reply)
RefusedWith NoMemory asked = Unit {0}

-- a new entry with its whole name
abbrev pub placed_view : Placed → PlacedModel
placed_view p = record { name = p.name; attributes = attributes_of p.entry }

-- a changed entry with its number
abbrev pub kept_view : ChangedEntry → KeptModel
kept_view k = record { number = k.number; attributes = attributes_of k.entry }

-- a moved entry
abbrev pub moved_view : Moved → MoveModel
moved_view m = record { number = m.number; before = m.before; after = m.after; attributes = attributes_of m.entry }

-- the names of a modifyDN
abbrev pub names_view : MoveNames → MoveNamesModel
names_view n = record { name = n.name; rdn = n.rdn; above = n.above }
