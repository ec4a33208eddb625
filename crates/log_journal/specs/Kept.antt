-- What a journal on a device holds of a replica.
use Rattle.std.specs.Prelude.{◌≡◌, ℕ, List, []}
use Rattle.journal.specs.Frames.{recorded}
use Rattle.journal.specs.Journal.{IsSettled}
use Rattle.journal.specs.declared.journal.Journal.{Journal}
use Rattle.ldap_op.specs.Values.{OpValue}
use Rattle.vr_state.specs.State.{State}
use Rattle.vr_state.specs.Journaled as journaled
use Rattle.vr_state.specs.declared.event.Event.{Event}
use Rattle.log_journal.specs.Taken.{IsKeptOfTaken}
use Rattle.log_journal.specs.Told.{Told, Tells, nothing_told}

-- The device holds what it is read as, all of it settled, up to the end that is known.
abbrev pub IsHeld : {D : Type 0} → (D → List ℕ) → (D → List ℕ → Type 0) → Journal D → Type 0
IsHeld seen may_leave journal = IsSettled (seen journal.device) (may_leave journal.device)
    (recorded (seen journal.device)) journal.end

-- Strings tell a replica's state, below the head of t: whose the journal is, and the last start.
pub record IsMemory (t : Told) (r : State OpValue) (strings : List (List ℕ)) : Type 0 where
  pub kept : journaled.Kept OpValue
  pub tells : Tells nothing_told strings (record t { kept = kept })
  pub of : journaled.IsKeptOf kept r
  pub none_waits : kept.staged ≡ []

-- Strings tell, below that head, the state after some first of the events that were taken of these.
pub record IsMemoryOfTaken (t : Told) (n i : ℕ) (r : State OpValue) (es : List (Event OpValue))
    (strings : List (List ℕ)) : Type 0 where
  pub kept : journaled.Kept OpValue
  pub tells : Tells nothing_told strings (record t { kept = kept })
  pub of : IsKeptOfTaken n i r es kept
