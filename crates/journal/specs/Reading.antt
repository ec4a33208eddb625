-- How the strings of an image are read one after another, by a window of its octets.
use Rattle.std.specs.Prelude.{◌≡◌, ℕ, ◌-◌, ◌<◌, ◌≤◌, Bool, true, false, List, [], ◌∷◌, ◌++◌, length, take, drop}
use Rattle.journal.specs.Frames.{after, body_at, is_whole, recorded}
use Rattle.journal.specs.Journal.{IsReadTo}
use Rattle.journal.specs.declared.reader.StringReader.{StringReader}

-- the string that was read last
abbrev pub string_read : StringReader → List ℕ
string_read r = take (r.string_end - r.string_start) (drop r.string_start r.window.items)

-- the octets behind it in the window
abbrev pub ahead : StringReader → List ℕ
ahead r = drop r.string_end r.window.items

-- A reader has read an image's strings up to its end, from where its window goes on.
pub record HasRead (r : StringReader) (image : List ℕ) : Type 0 where
  pub strings : List (List ℕ)
  pub read : IsReadTo strings image (drop r.end image)
  pub later : List ℕ
  pub window : drop r.end image ≡ ahead r ++ later
  pub within : r.end ≤ length image
  pub size : r.size ≡ length image

-- The next string is read, that of the whole frame at the end; the end is behind that frame then.
pub record ReadsNext (old new : StringReader) (image : List ℕ) : Type 0 where
  pub whole : is_whole (drop old.end image) ≡ true
  pub string : string_read new ≡ body_at (drop old.end image)
  pub behind : drop new.end image ≡ after (drop old.end image)
  pub rises : old.end < new.end
  pub left : recorded (drop old.end image) ≡ string_read new ∷ recorded (drop new.end image)

-- No whole frame stands at the end, which stays.
pub record ReadsNone (old new : StringReader) (image : List ℕ) : Type 0 where
  pub none : is_whole (drop old.end image) ≡ false
  pub stays : new.end ≡ old.end
  pub left : recorded (drop old.end image) ≡ []

-- A reader goes on: it reads the next string, or there is none.
abbrev pub Advances : Bool → StringReader → StringReader → List ℕ → Type 0
Advances true = ReadsNext
Advances false = ReadsNone
