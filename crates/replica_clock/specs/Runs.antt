-- What befalls a replica's clock, one thing after the other, and what holds whatever that is.
use Rattle.std.specs.Prelude.{◌≡◌, ℕ, ◌+◌, ◌*◌, ◌<◌, ◌≤◌, Bool, true, false, ◌&&◌, ◌==◌, List, [], ◌∷◌, Option, Some, None}
use Rattle.vr_state.specs.declared.words.Status.{Status}
use Rattle.vr_state.specs.declared.words.Status.TheVariants.{Normal}
use Rattle.replica_clock.specs.declared.sign.Sign.{Sign}
use Rattle.replica_clock.specs.declared.sign.Sign.TheVariants.{Leads, Lost, Part, Taken, Other}
use Rattle.replica_clock.specs.declared.clock.Due.TheVariants as due
use Rattle.replica_clock.specs.Clock.{ClockValue, awaits, done, due_at, heard, is_over, is_own, is_same, noted, primary, rested}

-- It is asked at a moment, and then wants to be asked after a time; it hears a sign of a replica; or its replica is in
-- a view with a status.
pub data Event : Type 0 where
  Asks : (now wait : ℕ) → Event
  Hears : (from : ℕ) (sign : Sign) (now : ℕ) → Event
  Notes : (view : ℕ) (status : Status) (now : ℕ) → Event

-- what the clock knows then
abbrev pub after : ClockValue → Event → ClockValue
after c (Asks now wait) = record (done (due_at (rested c now) now) (rested c now) now) { ask_at = now + wait }
after c (Hears from sign now) = heard c from sign now
after c (Notes view status now) = noted c view status now

-- what it knows after all of them
abbrev pub after_all : List Event → ClockValue → ClockValue
after_all [] c = c
after_all (e ∷ es) c = after_all es (after c e)

-- when it happens
abbrev pub moment_of : Event → ℕ
moment_of (Asks now wait) = now
moment_of (Hears from sign now) = now
moment_of (Notes view status now) = now

-- a sign of life of the view's primary, to a replica whose view has begun
abbrev pub is_life : ClockValue → ℕ → Sign → Bool
is_life c from (Leads view) = from == primary c && view == c.view_number
is_life c from Lost = false
is_life c from Part = from == primary c
is_life c from Taken = false
is_life c from Other = false

-- It says no sign of life of the primary: the clock is asked in time, and nothing is due, something else is heard, or
-- its replica is as it was.
abbrev pub IsSilent : ClockValue → Event → Type 0
IsSilent c (Asks now wait) = (c.silent_since ≤ now) × (now ≤ c.ask_at) × (due_at (rested c now) now ≡ due.Nothing)
IsSilent c (Hears from sign now) = is_life c from sign ≡ false
IsSilent c (Notes view status now) = (c.view_number == view && is_same c.status status) ≡ true

-- none of them does
abbrev pub AreSilent : ClockValue → List Event → Type 0
AreSilent c [] = Unit
AreSilent c (e ∷ es) = IsSilent c e × AreSilent (after c e) es

-- A backup that hears nothing of its primary suspects it: when it is asked in time, and two suspect periods have passed
-- since the last sign of life, it does, whatever else was heard meanwhile, and however often it was asked.
abbrev pub ASilentPrimaryIsSuspected : Type 0
ASilentPrimaryIsSuspected = (c : ClockValue) (events : List Event) (now : ℕ) → c.status ≡ Normal → is_own c ≡ false →
    AreSilent c events
    → c.silent_since + 2 * c.suspect ≤ now → now ≤ (after_all events c).ask_at
    → due_at (rested (after_all events c) now) now ≡ due.Suspect

-- it says that the view's primary has lost its state
abbrev pub is_loss_in : ClockValue → ℕ → Sign → Bool
is_loss_in c from Lost = from == primary c
is_loss_in c from (Leads view) = false
is_loss_in c from Part = false
is_loss_in c from Taken = false
is_loss_in c from Other = false

abbrev pub is_loss : ClockValue → Event → Bool
is_loss c (Asks now wait) = false
is_loss c (Hears from sign now) = is_loss_in c from sign
is_loss c (Notes view status now) = false

-- all of them come after a moment, and none says that a primary has lost its state
abbrev pub AreWellSince : ℕ → ClockValue → List Event → Type 0
AreWellSince last c [] = Unit
AreWellSince last c (e ∷ es) = (last ≤ moment_of e) × (is_loss c e ≡ false) × AreWellSince last (after c e) es

-- And while all is well it suspects nobody: within one suspect period after a sign of life of the view's primary,
-- whatever is heard meanwhile, and however late it is asked.
abbrev pub AHeardPrimaryIsTrusted : Type 0
AHeardPrimaryIsTrusted = (c : ClockValue) (last : ℕ) (events : List Event) (now : ℕ)
    → AreWellSince last (heard c (primary c) (Leads c.view_number) last) events → last ≤ now → now < last + c.suspect
    → is_over (rested (after_all events (heard c (primary c) (Leads c.view_number) last)) now) now ≡ false
