-- LDIF: what contracts that aren't public say of it.
-- What public contracts say is in specs/Faults.
use Rattle.std.specs.Prelude.{◌≡◌, ℕ, Result, Err}
use Rattle.ldif.specs.declared.fault.LdifCause.{LdifCause}
use Rattle.ldif.specs.Reading.{ReadingModel}
use Rattle.ldif.specs.declared.fault.LdifError.{LdifError}
use Rattle.ldif.specs.declared.fault.LdifError.TheVariants.{BadLdif, NoMemory}

-- why a line is not taken: it has no meaning where it stands, or memory ran out
abbrev pub IsLineFault : LdifError → Result ReadingModel LdifCause → ℕ → Type 0
IsLineFault (BadLdif line cause) after n = (after ≡ Err cause) × (line ≡ n)
IsLineFault NoMemory after n = Unit {0}
