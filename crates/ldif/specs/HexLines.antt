-- Lines of hex.
use Rattle.std.specs.Prelude.{ℕ, ◌+◌, List, [], ◌∷◌, ◌++◌, length, nat_eq, cond, Option, None, Some, Result, Ok, Err}
use Rattle.std.specs.Result.{result_ok}
use Rattle.hex.specs.Hex.{decode_of}
use Rattle.ldif.specs.Lines.{parts_of}
pub use Rattle.ldap_msg.specs.HexLines.{hex_line, message_lines}

-- octets before those of the lines that follow, or the number of the first line that is no hex
abbrev pub after : List (List ℕ) → Result (List (List ℕ)) ℕ → Result (List (List ℕ)) ℕ
after front (Ok os) = Ok (front ++ os)
after front (Err n) = Err n

-- the octets of a line before those of the rest, or the number of the line that has none
abbrev pub octets_then : ℕ → Option (List ℕ) → Result (List (List ℕ)) ℕ → Result (List (List ℕ)) ℕ
octets_then n None rest = Err n
octets_then n (Some octets) rest = after (octets ∷ []) rest

-- what the line of a number spells, and then the lines behind it; empty lines are skipped
abbrev pub line_then : ℕ → List ℕ → Result (List (List ℕ)) ℕ → Result (List (List ℕ)) ℕ
line_then n line rest = cond (nat_eq (length line) 0) rest (octets_then n (result_ok (decode_of line)) rest)

-- what lines spell, from the line of a number on
abbrev pub octets_from : ℕ → List (List ℕ) → Result (List (List ℕ)) ℕ
octets_from n [] = Ok []
octets_from n (l ∷ ls) = line_then n l (octets_from (n + 1) ls)

-- The octets that the lines of a text spell, one list a line that isn't empty, or the number of the first line that is
-- no hex. Lines end by LF or CRLF, and are counted from 1.
abbrev pub octets_of_lines : List ℕ → Result (List (List ℕ)) ℕ
octets_of_lines text = octets_from 1 (parts_of text)
