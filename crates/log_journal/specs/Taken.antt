-- How a replica takes a batch of events: each makes its step and is noted, or is left out.
use Rattle.std.specs.Prelude.{◌≡◌, ◌⊎◌, ℕ, List, [], ◌∷◌, ◌++◌, map, take, Result, Ok, Err}
use Rattle.std.specs.declared.alloc.AllocError.{AllocError}
use Rattle.ldap_op.specs.Values.{OpValue}
use Rattle.vr_state.specs.State.{State}
use Rattle.vr_state.specs.Step.{step}
use Rattle.vr_state.specs.Outcome.{Outcome}
use Rattle.vr_state.specs.Journaled as journaled
use Rattle.vr_state.specs.declared.event.Event.{Event}
use Rattle.vr_state.specs.declared.message.Outputs.{Outputs}
use Rattle.log_journal.specs.Notes.{Step, Puts}
use Rattle.log_journal.specs.Told.{Told, Tells}

-- a state and what is handed out, as the outcome of a step
abbrev pub given : State OpValue → Outputs OpValue → Outcome OpValue
given r out = record { state = r; sends = out.sends.items; replies = out.replies.items }

-- An event makes its step, and is noted.
pub record TakesOne (n i : ℕ) (r : State OpValue) (e : Event OpValue) (out : Outputs OpValue) (s : State OpValue)
    (old new : List (List ℕ)) : Type 0 where
  pub step : given s out ≡ step n i r e
  pub base : ℕ
  pub alike : take base r.log ≡ take base s.log
  pub puts : Puts (map (λ x. Step x) (journaled.notes_of r s e base)) old new

-- An event is taken, or is left out.
abbrev pub Takes : ℕ → ℕ → State OpValue → Event OpValue → Result (Outputs OpValue) AllocError → State OpValue →
    List (List ℕ) → List (List ℕ) → Type 0
Takes n i r e (Ok out) s old new = TakesOne n i r e out s old new
Takes n i r e (Err x) s old new = (s ≡ r) × (new ≡ old)

-- Events are taken or left out, one after another.
abbrev pub TakesAll : ℕ → ℕ → State OpValue → List (Event OpValue) → List (Result (Outputs OpValue) AllocError) →
    State OpValue → List (List ℕ) → List (List ℕ) → Type 0
TakesAll n i r [] [] s old new = (s ≡ r) × (new ≡ old)
TakesAll n i r (e ∷ es) (x ∷ xs) s old new = (t : State OpValue) × (mid : List (List ℕ)) × Takes n i r e x t old mid
    × TakesAll n i t es xs s mid new
TakesAll n i r _ _ s old new = ⊥

-- The replica comes from r to s by some first of these events: each makes its step, or is left out.
abbrev pub MakesSome : ℕ → ℕ → State OpValue → List (Event OpValue) → State OpValue → Type 0
MakesSome n i r [] s = s ≡ r
MakesSome n i r (e ∷ es) s = (s ≡ r) ⊎ ((t : State OpValue) × ((t ≡ r) ⊎ (t ≡ (step n i r e).state))
    × MakesSome n i t es s)

-- Events are taken or left out, whatever they note.
pub record IsTaken (n i : ℕ) (r : State OpValue) (es : List (Event OpValue))
    (xs : List (Result (Outputs OpValue) AllocError)) (s : State OpValue) : Type 0 where
  pub notes : List (List ℕ)
  pub taken : TakesAll n i r es xs s [] notes

-- These are some of those, in the same order; beside each stands a number.
abbrev pub AreSome : List (Event OpValue × ℕ) → List (Event OpValue) → Type 0
AreSome [] es = Unit {0}
AreSome (x ∷ xs) [] = ⊥
AreSome (x ∷ xs) (e ∷ es) = ((x.0 ≡ e) × AreSome xs es) ⊎ AreSome (x ∷ xs) es

-- What is kept is of the replica after some first of the events that it took of these.
pub record IsKeptOfTaken (n i : ℕ) (r : State OpValue) (es : List (Event OpValue)) (h : journaled.Kept OpValue) :
    Type 0 where
  pub taken : List (Event OpValue × ℕ)
  pub some : AreSome taken es
  pub kept : journaled.IsKeptOfSome n i r taken h

-- The strings that a batch adds tell, all of them, the replica as it is after the batch, and each beginning of them, as
-- it is after some first of the events that were taken.
pub record IsTold (n i : ℕ) (r : State OpValue) (es : List (Event OpValue)) (s : State OpValue) (t : Told)
    (old new : List (List ℕ)) : Type 0 where
  pub strings : List (List ℕ)
  pub is : new ≡ old ++ strings
  pub kept : journaled.Kept OpValue
  pub tells : Tells t strings (record t { kept = kept })
  pub all : journaled.IsKeptOf kept s
  pub none_waits : kept.staged ≡ []
  pub some : (m : ℕ) → (h : journaled.Kept OpValue) × Tells t (take m strings) (record t { kept = h })
      × IsKeptOfTaken n i r es h

-- Batches that are taken are told.
abbrev pub TakenIsTold : Type 0
TakenIsTold = (n i : ℕ) (r s : State OpValue) (es : List (Event OpValue))
    (xs : List (Result (Outputs OpValue) AllocError)) (old new : List (List ℕ)) →
    TakesAll n i r es xs s old new → (t : Told) → journaled.IsKeptOf t.kept r → t.kept.staged ≡ [] →
    IsTold n i r es s t old new
