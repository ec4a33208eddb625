-- What a publisher was given of what a node has executed. When it is shown is not said here.
use Rattle.std.specs.Prelude.{◌≡◌, List, length, ◌++◌, take}
use Rattle.dir_node.specs.vr_state.Words.{LogEntry}
use Rattle.dir_node.specs.dir_store.ldap_op.Values.{OpValue}
use Rattle.dir_node.specs.state_machine.Executing.{ExecutedValue}
use Rattle.dir_seats.specs.Showing.{Showing}

-- the records that seats see, and then those that they are to see next
abbrev pub given_records : Showing → List (LogEntry OpValue)
given_records shown = shown.published.records ++ shown.waiting

-- What is shown, and what is to be shown next, is the first records of what was executed, over the same schema, root
-- and index choice.
abbrev pub IsGiven : ExecutedValue → Showing → Type 0
IsGiven executed shown =
    (executed.schema ≡ shown.published.schema)
    × (executed.suffix ≡ shown.published.suffix)
    × (executed.indexes ≡ shown.published.indexes)
    × (take (length (given_records shown)) executed.records ≡ given_records shown)

-- All that was executed is shown.
abbrev pub HasAll : ExecutedValue → Showing → Type 0
HasAll executed shown = shown.published.records ≡ executed.records
