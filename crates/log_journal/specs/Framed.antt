-- The octets of a batch: the frames of its strings, and not so many that a length couldn't say it.
use Rattle.std.specs.Prelude.{◌≤◌, ◌^◌, ℕ, List, length}
use Rattle.journal.specs.Frames.{frames}

-- The frames of strings take 2 ^ 35 octets or more.
abbrev pub AreTooLong : List (List ℕ) → Type 0
AreTooLong strings = 2 ^ 35 ≤ length (frames strings)
