-- The sessions whose updates wait in threads of their own. Which waits where comes in; whose client is gone comes out.
use Rattle.std.specs.Prelude.{◌≡◌, ◌≤◌, ◌-◌, ℕ, List, slice_get, Option, Some, None}
use Rattle.std.specs.Duration.{as_nanos}
use Rattle.std.specs.Time.{instant_nanos}
use Rattle.std.specs.declared.time.Duration.{Duration}
use Rattle.std.specs.declared.time.Instant.{Instant}
use Rattle.session_table.specs.declared.updaters.Updater.{Updater}
use Rattle.session_table.specs.declared.updaters.Updaters.{Updaters}

-- the session at each thread that updates
abbrev pub posted : Updaters → List (Option Updater)
posted p = p.updaters.items

-- the session of a token, whose client may send more, or has sent no more since then
abbrev pub post_of : ℕ → Updater
post_of token = record { token = token; closed = None }

-- the session of a token, whose client sends no more since then
abbrev pub closed_post : ℕ → Instant → Updater
closed_post token since = record { token = token; closed = Some since }

-- it was for so long
abbrev pub IsPast : Instant → Duration → Instant → Type 0
IsPast since limit now = as_nanos limit ≤ instant_nanos now - instant_nanos since

-- the update of the session of this token waits in this thread
pub record HasPost (updaters : List (Option Updater)) (thread token : ℕ) : Type 0 where
  pub closed : Option Instant
  pub at : slice_get updaters thread ≡ Some (Some (record { token = token; closed = closed }))

-- it waits there, and its client may send more
abbrev pub IsOpen : List (Option Updater) → ℕ → ℕ → Type 0
IsOpen updaters thread token = slice_get updaters thread ≡ Some (Some (post_of token))

-- the client of an update has sent no more for so long
pub record IsClosedFor (p : Updater) (limit : Duration) (now : Instant) : Type 0 where
  pub since : Instant
  pub closed : p.closed ≡ Some since
  pub past : IsPast since limit now

-- such an update waits in this thread
pub record IsGone (updaters : List (Option Updater)) (limit : Duration) (now : Instant) (thread : ℕ) : Type 0 where
  pub post : Updater
  pub at : slice_get updaters thread ≡ Some (Some post)
  pub closed : IsClosedFor post limit now
