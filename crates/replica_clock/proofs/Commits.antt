-- A commit is told soon.
use Rattle.std.proofs.Common.{ℕ, ◌+◌, ◌≤◌, min, arith}
use Rattle.std.specs.Prelude.{nat_le}
use Rattle.std.proofs.lemmas.Bool.{and_from, le-leb}
use Rattle.replica_clock.specs.Clock.{ACommitIsToldSoon, beats, haste, is_own}

-- the lesser of two numbers is at most the second
pub least : (a b : ℕ) → min a b ≤ b
least a b = omega arith

pub told_soon : ACommitIsToldSoon
told_soon c now h = (
  and_from (beats c.status (is_own c)) (nat_le (min c.beat_at soon) soon) h (le-leb (min c.beat_at soon) soon
      (least c.beat_at soon)),
  least c.ask_at soon,
)
  where
    soon : ℕ
    soon = now + haste c
