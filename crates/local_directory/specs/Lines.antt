-- Lines of hex.
use Rattle.std.specs.Prelude.{◌≡◌, ℕ, zero, suc, List, [], ◌∷◌, true, false, Ok, Option, None, Some}
use Rattle.std.specs.Io.BufRead.{take_through, drop_through, strip_last}
use Rattle.hex.specs.Hex.{decode_of}
pub use Rattle.ldap_session.specs.Octets.{is_empty}
pub use Rattle.ldap_session.specs.ldap_msg.HexLines.{hex_line, message_lines}

-- the first line, without its end of LF or CRLF
abbrev pub first_line : List ℕ → List ℕ
first_line xs = strip_last 13 (strip_last 10 (take_through 10 xs))

-- what stands after the first line
abbrev pub after_line : List ℕ → List ℕ
after_line xs = drop_through 10 xs

-- what stands after so many lines
abbrev pub after_lines : ℕ → List ℕ → List ℕ
after_lines zero xs = xs
after_lines (suc n) xs = after_line (after_lines n xs)

-- the next line of an input, none at its end, and what is left of the input
abbrev pub IsNextLine : List ℕ → Option (List ℕ) → Option (List ℕ) → Type 0
IsNextLine xs None left = (xs ≡ []) × (left ≡ Some [])
IsNextLine xs (Some line) left = (is_empty xs ≡ false) × (line ≡ first_line xs) × (left ≡ Some (after_line xs))

-- no octets are these in hex
abbrev pub IsNoHex : List ℕ → Type 0
IsNoHex line = (octets : List ℕ) → decode_of line ≡ Ok octets → ⊥

-- The lines at the front spell these pieces of a stream, and this is left: each line that isn't empty is one piece in
-- hex.
pub data Spell : List ℕ → List (List ℕ) → List ℕ → Type 0 where
  stops : {xs : List ℕ} → Spell xs [] xs
  skips : {xs rest : List ℕ} {ms : List (List ℕ)} → is_empty xs ≡ false → is_empty (first_line xs) ≡ true →
      Spell (after_line xs) ms rest → Spell xs ms rest
  spells : {xs rest : List ℕ} {ms : List (List ℕ)} (m : List ℕ) → is_empty (first_line xs) ≡ false →
      decode_of (first_line xs) ≡ Ok m → Spell (after_line xs) ms rest →
      Spell xs (m ∷ ms) rest
