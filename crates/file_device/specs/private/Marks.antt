-- The mark in the first block of a journal's file: up to where the journal was synced, with a sum that tells whether
-- the mark is whole.
use Rattle.std.specs.Prelude.{◌≡◌, ℕ, List, slice_range}
use Rattle.file_device.specs.private.Heads.{numeral, sum_of}

-- In the place of the mark are a number, and the first eight octets of its SHA-256.
pub record IsMarked (synced : ℕ) (front : List ℕ) : Type 0 where
  pub number : slice_range front 512 520 ≡ numeral synced
  pub sum : slice_range front 520 528 ≡ sum_of (numeral synced)
