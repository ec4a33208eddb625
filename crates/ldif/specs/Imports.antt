-- Imports, from a text of LDIF to lines of hex.
use Rattle.std.specs.Prelude.{◌≡◌, ◌≤◌, ◌<◌, ◌^◌, ℕ, List, length, Ok, Err}
use Rattle.ldif.specs.Records.{RecordModel}
use Rattle.ldif.specs.Reading.{records_of}
use Rattle.ldif.specs.Adds.{adds_from}
use Rattle.ldif.specs.HexLines.{message_lines}
use Rattle.ldif.specs.declared.refusals.ImportError.{ImportError}
use Rattle.ldif.specs.declared.refusals.ImportError.TheVariants.{BadLdif, TooLong, TooManyRecords, NoMemory}
pub use Rattle.ldap_msg.specs.Limits.{HasTooLong}

-- why records give no lines
abbrev pub IsAskFault : ImportError → List RecordModel → Type 0
IsAskFault (BadLdif line cause) rs = ⊥
IsAskFault TooLong rs = HasTooLong (adds_from 1 rs)
IsAskFault TooManyRecords rs = 2 ^ 31 ≤ length rs
IsAskFault NoMemory rs = Unit {0}

-- What is written of a text of LDIF: the adds of its records, each a line, with messageIDs from 1 on.
pub record IsImport (text out : List ℕ) : Type 0 where
  pub records : List RecordModel
  pub read : records_of text ≡ Ok records
  pub few : length records < 2 ^ 31
  pub written : out ≡ message_lines (adds_from 1 records)

-- a text has records, and they give no lines
pub record HasNoLines (e : ImportError) (text : List ℕ) : Type 0 where
  pub records : List RecordModel
  pub read : records_of text ≡ Ok records
  pub fault : IsAskFault e records

-- Why a text is not imported: its first line that is no LDIF, or its records give no lines.
abbrev pub IsImportFault : ImportError → List ℕ → Type 0
IsImportFault (BadLdif line cause) text = records_of text ≡ Err (record { line = line; cause = cause })
IsImportFault TooLong text = HasNoLines TooLong text
IsImportFault TooManyRecords text = HasNoLines TooManyRecords text
IsImportFault NoMemory text = Unit {0}
