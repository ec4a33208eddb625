-- Which refusals the parts of a node's start may give.
use Rattle.log_journal.specs.declared.error.NoteError.TheVariants as note
use Rattle.view_store.specs.declared.fault.ViewStoreError.TheVariants as view
use Rattle.dir_node.specs.declared.error.NodeError.{NodeError}
use Rattle.dir_node.specs.declared.error.NodeError.TheVariants.{NoMemory, Store, Journal, ForeignJournal, StaleJournal}

-- A start that is refused so has written nothing.
abbrev pub IsEarly : NodeError → Type 0
IsEarly NoMemory = Unit {0}
IsEarly ForeignJournal = Unit {0}
IsEarly StaleJournal = Unit {0}
IsEarly (Journal note.Damaged) = Unit {0}
IsEarly (Journal note.AnotherVersion) = Unit {0}
IsEarly (Store view.ForeignCluster) = Unit {0}
IsEarly (Store view.KeepsJournal) = Unit {0}
IsEarly _ = ⊥
