-- What a refusal says.
use Rattle.std.specs.Prelude.{◌≡◌, ℕ, List}
use Rattle.std.specs.declared.result.Result.{Result}
use Rattle.std.specs.declared.result.Result.TheVariants.{Err}
use Rattle.ldif.specs.Records.{RecordModel}
use Rattle.ldif.specs.Reading.{FaultModel, records_of}
use Rattle.ldif.specs.declared.fault.LdifError.{LdifError}
use Rattle.ldif.specs.declared.fault.LdifError.TheVariants.{BadLdif, NoMemory}

-- why lines give no records: the first that is wrong, and its cause, or memory ran out
abbrev pub IsLinesFault : LdifError → Result (List RecordModel) FaultModel → Type 0
IsLinesFault (BadLdif line cause) read = read ≡ Err (record { line = line; cause = cause })
IsLinesFault NoMemory read = Unit {0}

-- Why a text gives no records: its first line that is wrong, or memory ran out.
abbrev pub IsReadFault : LdifError → List ℕ → Type 0
IsReadFault e text = IsLinesFault e (records_of text)
