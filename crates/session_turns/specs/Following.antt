-- What a seat does behind a message. What it sees comes in, with the moments; what follows comes out. Times are
-- microseconds.
use Rattle.std.specs.Prelude.{◌≡◌, ◌<◌, ◌≤◌, ◌+◌, ℕ, false}
use Rattle.session_turns.specs.declared.following.Seen.{Seen}

-- Nobody waits for sockets, and it was last looked at them a millisecond ago.
pub record IsUnseen (seen : Seen) (now : ℕ) : Type 0 where
  pub alone : seen.is_led ≡ false
  pub due : seen.looked + 1000 ≤ now

-- Others are ready, and a stay that began at this moment has lasted for a millisecond.
pub record IsOver (seen : Seen) (now begun : ℕ) : Type 0 where
  pub others : 0 < seen.ready
  pub long : begun + 1000 ≤ now
