-- What opening a journal finds, and why it is refused as one of another version: what contracts that aren't public say
-- of it. What public contracts say is in specs/Found.
use Rattle.std.specs.Prelude.{◌≡◌, ℕ, Bool, true, false, List}
use Rattle.journal.specs.Reading.{ReadsNext, ReadsNone, string_read}
use Rattle.journal.specs.declared.reader.StringReader.{StringReader}
use Rattle.log_journal.specs.Told.{Told}
use Rattle.log_journal.specs.private.Told.{TakesString}

-- The next string of an image is read and taken, or there is none.
abbrev pub TellsNext : Bool → StringReader → StringReader → Told → Told → List ℕ → Type 0
TellsNext true old new t u image = ReadsNext old new image × TakesString (string_read new) t u
TellsNext false old new t u image = ReadsNone old new image × (u ≡ t)
