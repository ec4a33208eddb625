-- What the journal of a node tells, now and after a crash: what contracts that aren't public say of it.
-- What public contracts say is in specs/Logged.
use Rattle.std.specs.Prelude.{ℕ, Option, Some, None, List}
use Rattle.state_machine.specs.dir_store.ldap_op.Values.{OpValue}
use Rattle.log_journal.specs.Kept.{IsHeld, IsMemory}
use Rattle.log_journal.specs.Told.{Told}
use Rattle.log_journal.specs.journal.Frames.{recorded}
use Rattle.log_journal.specs.journal.declared.journal.Journal.{Journal}
use Rattle.vr_state.specs.State.{State}

-- A journal, where there is one, holds what it is read as, all of it settled.
abbrev pub IsHeldIn : {J : Type 0} → (J → List ℕ) → (J → List ℕ → Type 0) → Option (Journal J) → Type 0
IsHeldIn seen may_leave None = Unit {0}
IsHeldIn seen may_leave (Some j) = IsHeld seen may_leave j

-- Where there is a journal, it tells this state below this head.
abbrev pub IsToldIn : {J : Type 0} → (J → List ℕ) → Option (Journal J) → Told → State OpValue → Type 0
IsToldIn seen None t r = Unit {0}
IsToldIn seen (Some j) t r = IsMemory t r (recorded (seen j.device))

-- A journal goes along as its replica comes from r to s: it is settled, and tells s where it told r.
pub record GoesAlong {J : Type 0} (seen : J → List ℕ) (may_leave : J → List ℕ → Type 0) (r s : State OpValue)
    (old new : Option (Journal J)) : Type 0 where
  pub held : IsHeldIn seen may_leave new
  pub told : (t : Told) → IsToldIn seen old t r → IsToldIn seen new t s
