-- Lines of hex: what contracts that aren't public say of it.
-- What public contracts say is in specs/Lines.
use Rattle.std.specs.Prelude.{◌≡◌, ℕ, List, [], ◌∷◌, ◌++◌, true, false, Ok, Option, Some}
use Rattle.hex.specs.Hex.{decode_of}
use Rattle.local_directory.specs.declared.line.Line.{Line}
use Rattle.local_directory.specs.declared.line.Line.TheVariants.{End, Blank, Piece}
use Rattle.local_directory.specs.Lines.{first_line, after_line, is_empty, hex_line}

-- what an input begins with, and what is left of it: its end, an empty line, or a line that is a piece of a stream in
-- hex
abbrev pub BeginsWith : List ℕ → Line → Option (List ℕ) → Type 0
BeginsWith xs End left = (xs ≡ []) × (left ≡ Some [])
BeginsWith xs Blank left = (is_empty xs ≡ false) × (is_empty (first_line xs) ≡ true) × (left ≡ Some (after_line xs))
BeginsWith xs (Piece v) left = (is_empty xs ≡ false) × (is_empty (first_line xs) ≡ false)
    × (decode_of (first_line xs) ≡ Ok v.items) × (left ≡ Some (after_line xs))

-- the same of a line without its end
abbrev pub IsLineOf : List ℕ → Line → Type 0
IsLineOf line End = ⊥
IsLineOf line Blank = is_empty line ≡ true
IsLineOf line (Piece v) = (is_empty line ≡ false) × (decode_of line ≡ Ok v.items)

-- octets, each as a line
abbrev pub hex_lines : List (List ℕ) → List ℕ
hex_lines [] = []
hex_lines (o ∷ os) = hex_line o ++ hex_lines os
