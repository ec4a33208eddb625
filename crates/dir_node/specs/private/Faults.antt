-- Which refusals the parts of a node's start may give: what contracts that aren't public say of it.
-- What public contracts say is in specs/Faults.
use Rattle.log_journal.specs.declared.error.NoteError.TheVariants as note
use Rattle.view_store.specs.declared.fault.ViewStoreError.TheVariants as view
use Rattle.dir_node.specs.declared.error.NodeError.{NodeError}
use Rattle.dir_node.specs.declared.error.NodeError.TheVariants.{NoMemory, Store, Journal, ForeignJournal, StaleJournal, Halted}

-- Want of memory, or notes that are too long: no device has failed, and no journal was read.
abbrev pub IsNoteFault : NodeError → Type 0
IsNoteFault NoMemory = Unit {0}
IsNoteFault (Journal note.Full) = Unit {0}
IsNoteFault _ = ⊥

-- What clearing behind a journal's strings may give.
abbrev pub IsClearFault : NodeError → Type 0
IsClearFault NoMemory = Unit {0}
IsClearFault (Journal note.DeviceFailed) = Unit {0}
IsClearFault _ = ⊥

-- What opening a journal may give.
abbrev pub IsOpenFault : NodeError → Type 0
IsOpenFault NoMemory = Unit {0}
IsOpenFault (Journal _) = Unit {0}
IsOpenFault _ = ⊥

-- What reading a journal may give.
abbrev pub IsLogFault : NodeError → Type 0
IsLogFault NoMemory = Unit {0}
IsLogFault (Journal _) = Unit {0}
IsLogFault ForeignJournal = Unit {0}
IsLogFault StaleJournal = Unit {0}
IsLogFault (Store _) = ⊥
IsLogFault Halted = ⊥

-- What writing a start may give.
abbrev pub IsWriteFault : NodeError → Type 0
IsWriteFault (Journal note.DeviceFailed) = Unit {0}
IsWriteFault (Journal note.Full) = Unit {0}
IsWriteFault (Store view.DeviceFailed) = Unit {0}
IsWriteFault (Store view.NoPair) = Unit {0}
IsWriteFault _ = ⊥

-- What a start without a journal may give.
abbrev pub IsPairFault : NodeError → Type 0
IsPairFault NoMemory = Unit {0}
IsPairFault (Store view.Failed) = ⊥
IsPairFault (Store _) = Unit {0}
IsPairFault _ = ⊥
