-- LDIF and messages: what contracts that aren't public say of it.
-- What public contracts say is in specs/Imports.
use Rattle.std.specs.Prelude.{◌≡◌, ◌≤◌, ◌^◌, ℕ, List, length, Err}
use Rattle.ldif.specs.Reading.{records_of}
use Rattle.ldif.specs.declared.refusals.ImportError.{ImportError}
use Rattle.ldif.specs.declared.refusals.ImportError.TheVariants.{BadLdif, TooLong, TooManyRecords, NoMemory}

-- why a message is not written: its content is too long, or memory ran out
abbrev pub IsPutFault : ImportError → List ℕ → Type 0
IsPutFault (BadLdif line cause) content = ⊥
IsPutFault TooLong content = 2 ^ 32 ≤ length content
IsPutFault TooManyRecords content = ⊥
IsPutFault NoMemory content = Unit {0}

-- why a text has no records: its first line that is no LDIF, or memory ran out
abbrev pub IsReadFault : ImportError → List ℕ → Type 0
IsReadFault (BadLdif line cause) text = records_of text ≡ Err (record { line = line; cause = cause })
IsReadFault TooLong text = ⊥
IsReadFault TooManyRecords text = ⊥
IsReadFault NoMemory text = Unit {0}
