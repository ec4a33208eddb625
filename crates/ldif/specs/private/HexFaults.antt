-- Why lines of hex spell nothing.
use Rattle.std.specs.Prelude.{◌≡◌, ℕ, List, Result, Err}
use Rattle.ldif.specs.HexLines.{octets_of_lines}
use Rattle.ldif.specs.declared.refusals.ExportError.{ExportError}
use Rattle.ldif.specs.declared.refusals.ExportError.TheVariants.{BadHexLine, Code, NoDoneMessage, BadMessage, NoMemory}

-- the first line that is no hex, or memory ran out
abbrev pub IsLineFault : ExportError → Result (List (List ℕ)) ℕ → Type 0
IsLineFault (BadHexLine line) spelled = spelled ≡ Err line
IsLineFault (Code number) spelled = ⊥
IsLineFault NoDoneMessage spelled = ⊥
IsLineFault BadMessage spelled = ⊥
IsLineFault NoMemory spelled = Unit {0}

-- the fault of a text of hexadecimal lines
abbrev pub IsHexFault : ExportError → List ℕ → Type 0
IsHexFault e text = IsLineFault e (octets_of_lines text)
