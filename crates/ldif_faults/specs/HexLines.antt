-- What is wrong with a line of hex: a text and the line's number come in, a sentence goes out.
use Rattle.std.specs.Prelude.{◌++◌, ℕ, ◌+◌, ◌-◌, List, [], ◌∷◌, nat_eq, cond, codes, decimal, slice_get, Option, None, Some}
use Rattle.std.specs.List.{slice_split}
use Rattle.std.specs.Char.{is_ascii_hexdigit}
use Rattle.ldif.specs.Lines.{without_return}
use Rattle.text_faults.specs.Words.{octet_shown}

-- an octet that is no hexadecimal digit, in this column
abbrev pub bad_octet : ℕ → ℕ → List ℕ
bad_octet octet column = codes "'" ++ octet_shown octet ++ codes "' at column " ++ decimal column ++ codes
    " is no hexadecimal digit"

-- What a sentence says of a line that spells no octets: its first octet that is no hexadecimal digit, with its column,
-- counted from this one; or that they are odd in number.
abbrev pub hex_sentence : ℕ → List ℕ → List ℕ
hex_sentence column [] = codes "expected two digits for each octet, found an odd number of them"
hex_sentence column (octet ∷ line) =
    cond (is_ascii_hexdigit octet) (hex_sentence (column + 1) line) (bad_octet octet column)

-- the same of a line of a text, or of one that isn't there
abbrev pub hex_sentence_of : Option (List ℕ) → List ℕ
hex_sentence_of None = codes "expected hexadecimal digits, two for each octet"
hex_sentence_of (Some line) = hex_sentence 1 (without_return line)

-- the line of a number, counted from 1, up to its LF
abbrev pub line_at : List ℕ → ℕ → Option (List ℕ)
line_at text number = slice_get (slice_split (nat_eq 10) text) (number - 1)
