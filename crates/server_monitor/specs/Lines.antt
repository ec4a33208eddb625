-- Lines that are said and the notes that stand for them until they are written.
use Rattle.std.specs.Prelude.{◌≡◌, ℕ, ◌+◌, ◌<◌, ◌≤◌, min, List, [], ◌∷◌, ◌++◌, length, All, string_bytes, cond, ◌==◌}
use Rattle.server_monitor.specs.declared.notes.Note.{Note}
use Rattle.server_monitor.specs.declared.notes.Note.TheVariants.{Line, Dropped}

-- a note: a text that was said so many times in a row, or so many lines that were dropped
pub data NoteValue : Type 0 where
  line : List ℕ → ℕ → NoteValue
  dropped : ℕ → NoteValue

-- what a note says
abbrev pub note_of : Note → NoteValue
note_of (Line text times) = line (string_bytes text) times
note_of (Dropped count) = dropped count

-- the note of so many dropped lines, where there are some
abbrev pub perhaps_dropped : ℕ → List NoteValue
perhaps_dropped count = cond (count == 0) [] (dropped count ∷ [])

-- notes that wait, the oldest first, and how many may but for the one that counts dropped lines
pub record LinesValue : Type 0 where
  pub notes : List NoteValue
  pub most : ℕ

-- a count; 18446744073709551615 stands for any greater number too
abbrev pub counted : ℕ → ℕ
counted n = min n 18446744073709551615

-- one more than a count
abbrev pub one_more : ℕ → ℕ
one_more n = counted (n + 1)

-- a note of this text
abbrev pub IsLineOf : List ℕ → NoteValue → Type 0
IsLineOf text (line other times) = other ≡ text
IsLineOf text (dropped count) = ⊥

-- the last note is one of this text
abbrev pub EndsWith : List ℕ → List NoteValue → Type 0
EndsWith text notes = (before : List NoteValue) × (times : ℕ) × (notes ≡ before ++ line text times ∷ [])

-- a line is dropped: it is counted with those that were dropped just before it, or is the first
pub data HasDropped (old new : List NoteValue) : Type 0 where
  first : new ≡ old ++ dropped 1 ∷ [] → HasDropped old new
  further : (before : List NoteValue) (count : ℕ) → old ≡ before ++ dropped count ∷ [] →
      new ≡ before ++ dropped (one_more count) ∷ [] → HasDropped old new

-- A line is said: one like the last is counted with it; any other is kept where there is a place for it, and dropped
-- where there is none.
pub data HasSaid (most : ℕ) (text : List ℕ) (old new : List NoteValue) : Type 0 where
  again : (before : List NoteValue) (times : ℕ) → old ≡ before ++ line text times ∷ [] → new ≡ before ++ line text
      (one_more times) ∷ [] →
      HasSaid most text old new
  kept : (EndsWith text old → ⊥) → length old < most → new ≡ old ++ line text 1 ∷ [] → HasSaid most text old new
  no_place : (EndsWith text old → ⊥) → most ≤ length old → HasDropped old new → HasSaid most text old new

-- a note stands for these lines, which were said one after the other
abbrev pub StandsFor : NoteValue → List (List ℕ) → Type 0
StandsFor (line text times) said = All (λ l. l ≡ text) said × (times ≡ counted (length said))
StandsFor (dropped count) said = count ≡ counted (length said)

-- notes stand for these lines, all of them, in the order in which they were said
abbrev pub StandFor : List NoteValue → List (List ℕ) → Type 0
StandFor [] said = said ≡ []
StandFor (n ∷ ns) said = (front : List (List ℕ)) × (rest : List (List ℕ)) × (said ≡ front ++ rest) × StandsFor n front
    × StandFor ns rest

-- No line goes uncounted: where notes stand for all lines that were said, they do so after one more.
abbrev pub CountsAll : Type 0
CountsAll = (most : ℕ) (text : List ℕ) (old new : List NoteValue) (said : List (List ℕ)) → HasSaid most text old new →
    StandFor old said →
    StandFor new (said ++ text ∷ [])
