-- What ends a session over lines early: what contracts that aren't public say of it.
-- What public contracts say is in specs/Faults.
use Rattle.std.specs.Prelude.{◌≡◌, ℕ, List, false, Option}
use Rattle.std.specs.Io.KnownBytes.{Appends}
use Rattle.ldap_session.specs.Octets.{IsFront}
use Rattle.local_directory.specs.Lines.{is_empty, IsNoHex}
use Rattle.local_directory.specs.declared.line_fault.LineFault.{LineFault}
use Rattle.local_directory.specs.declared.line_fault.LineFault.TheVariants.{BadHexLine, CannotRead, CannotWrite, TooLong, NoMemory}
use Rattle.local_directory.specs.Faults.{IsWriteFault, IsBadLine}

-- what comes of reading a line of this number: it is named, where it is no hex
abbrev pub IsLineFault : List ℕ → ℕ → LineFault → Type 0
IsLineFault xs number (BadHexLine named) = (named ≡ number) × IsBadLine xs
IsLineFault xs number CannotRead = Unit {0}
IsLineFault xs number CannotWrite = ⊥
IsLineFault xs number TooLong = ⊥
IsLineFault xs number NoMemory = Unit {0}

-- the same of a line without its end
abbrev pub IsFaultOf : List ℕ → ℕ → LineFault → Type 0
IsFaultOf line number (BadHexLine named) = (named ≡ number) × (is_empty line ≡ false) × IsNoHex line
IsFaultOf line number CannotRead = ⊥
IsFaultOf line number CannotWrite = ⊥
IsFaultOf line number TooLong = ⊥
IsFaultOf line number NoMemory = Unit {0}

-- An output has grown by a front of these octets, and this fault says why by no more.
pub record IsCutOff (output grown : Option (List ℕ)) (octets : List ℕ) (fault : LineFault) : Type 0 where
  pub kind : IsWriteFault fault
  pub taken : List ℕ
  pub appended : Appends output grown taken
  pub front : IsFront taken octets
