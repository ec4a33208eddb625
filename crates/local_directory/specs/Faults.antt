-- What ends a session over lines early: which fault comes of what, and how far an output has grown then.
use Rattle.std.specs.Prelude.{◌≡◌, ℕ, List, false}
use Rattle.ldap_session.specs.declared.end.SessionEnd.{SessionEnd}
use Rattle.ldap_session.specs.declared.end.SessionEnd.TheVariants.{ReadFailed, WriteFailed, NoMemory as NoMemoryEnd}
use Rattle.local_directory.specs.Lines.{is_empty, first_line, IsNoHex}
use Rattle.local_directory.specs.declared.line_fault.LineFault.{LineFault}
use Rattle.local_directory.specs.declared.line_fault.LineFault.TheVariants.{BadHexLine, CannotRead, CannotWrite, TooLong, NoMemory}

-- what comes of reading
abbrev pub IsReadFault : LineFault → Type 0
IsReadFault (BadHexLine number) = ⊥
IsReadFault CannotRead = Unit {0}
IsReadFault CannotWrite = ⊥
IsReadFault TooLong = ⊥
IsReadFault NoMemory = Unit {0}

-- what comes of answering and writing
abbrev pub IsWriteFault : LineFault → Type 0
IsWriteFault (BadHexLine number) = ⊥
IsWriteFault CannotRead = ⊥
IsWriteFault CannotWrite = Unit {0}
IsWriteFault TooLong = Unit {0}
IsWriteFault NoMemory = Unit {0}

-- an input begins with a line that is not empty, and no hex
abbrev pub IsBadLine : List ℕ → Type 0
IsBadLine xs = (is_empty xs ≡ false) × (is_empty (first_line xs) ≡ false) × IsNoHex (first_line xs)

-- how a session ends whose lines end by a fault: as by a failed read, by a failed write, or for want of memory
abbrev pub end_of : LineFault → SessionEnd
end_of (BadHexLine number) = ReadFailed
end_of CannotRead = ReadFailed
end_of CannotWrite = WriteFailed
end_of TooLong = WriteFailed
end_of NoMemory = NoMemoryEnd
