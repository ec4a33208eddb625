-- How the strings of an image are read one after another, by a window of its octets: what contracts that aren't public
-- say of it. What public contracts say is in specs/Reading.
use Rattle.std.specs.Prelude.{◌≡◌, ◌+◌, Bool, true, false}
use Rattle.journal.specs.Frames.{after, body_at, head_length, is_whole}
use Rattle.journal.specs.declared.reader.StringReader.{StringReader}
use Rattle.journal.specs.Reading.{string_read, ahead}

-- The whole frame at the front of what is ahead is taken; where there is none, nothing has changed.
abbrev pub TakesFrame : Bool → StringReader → StringReader → Type 0
TakesFrame true old new =
    (is_whole (ahead old) ≡ true) × (string_read new ≡ body_at (ahead old)) × (ahead new ≡ after (ahead old))
    × (new.end ≡ old.end + (10 + head_length (ahead old))) × (new.size ≡ old.size)
TakesFrame false old new = (is_whole (ahead old) ≡ false) × (new ≡ old)
