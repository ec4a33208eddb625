-- The lines of a text, unfolded, with their numbers.
use Rattle.std.specs.Prelude.{ℕ, ◌+◌, ◌-◌, List, [], ◌∷◌, ◌++◌, length, map, take, drop, Bool, false, cond, nat_eq, slice_index}
use Rattle.std.specs.List.{slice_split}

-- a line: the number of its first part, counted from 1, and its octets, unfolded
pub record LineModel : Type 0 where
  pub number : ℕ
  pub text : List ℕ

-- less one CR at the end
abbrev pub without_return : List ℕ → List ℕ
without_return l = cond (nat_eq (slice_index l (length l - 1)) 13) (take (length l - 1) l) l

-- the lines as they stand: each ends by LF or CRLF, or where the text ends (RFC 2849, SEP)
abbrev pub parts_of : List ℕ → List (List ℕ)
parts_of text = map without_return (slice_split (nat_eq 10) text)

-- Whether a line continues the one before it: it begins with a space, and the one before it isn't empty (RFC 2849,
-- note 2).
abbrev pub continues : List ℕ → List ℕ → Bool
continues [] part = false
continues (c ∷ cs) [] = false
continues (c ∷ cs) (d ∷ ds) = nat_eq d 32

-- a line and one that continues it, less the space
abbrev pub folded : LineModel → LineModel → LineModel
folded a b = record { number = a.number; text = a.text ++ drop 1 b.text }

-- a line before lines, of which the first one may continue it
abbrev pub before : LineModel → List LineModel → List LineModel
before a [] = a ∷ []
before a (b ∷ bs) = cond (continues a.text b.text) (folded a b ∷ bs) (a ∷ b ∷ bs)

-- parts, the first of which has this number, unfolded
abbrev pub unfolded : ℕ → List (List ℕ) → List LineModel
unfolded n [] = []
unfolded n (part ∷ parts) = before (record { number = n; text = part }) (unfolded (n + 1) parts)

-- The lines of a text. What is left that begins with a space continues nothing.
abbrev pub lines_of : List ℕ → List LineModel
lines_of text = unfolded 1 (parts_of text)
