-- Laws on a journal's strings: they tell one thing, and a batch of events is told after some first of its strings as it
-- is after some first of its events.
use Rattle.std.specs.Prelude.{◌≡◌, ℕ, List, [], ◌++◌, map, take}
use Rattle.ldap_op.specs.Values.{OpValue}
use Rattle.vr_state.specs.State.{State}
use Rattle.vr_state.specs.declared.event.Event.{Event}
use Rattle.vr_state.specs.Journaled as journaled
use Rattle.log_journal.specs.Notes.{Note, Step, SpellAll}
use Rattle.log_journal.specs.Told.{Told, Tells}

-- After all strings of a batch the replica is told as it is after all its events, and after some first of them as it is
-- after some first of its events.
pub record IsToldAfter (n i : ℕ) (r : State OpValue) (xs : List (Event OpValue × ℕ)) (t : Told)
    (strings : List (List ℕ)) : Type 0 where
  pub kept : journaled.Kept OpValue
  pub tells : Tells t strings (record t { kept = kept })
  pub all : journaled.IsKeptOf kept (journaled.after_events n i r xs)
  pub none_waits : kept.staged ≡ []
  pub some : (m : ℕ) → (h : journaled.Kept OpValue) × Tells t (take m strings) (record t { kept = h })
      × journaled.IsKeptOfSome n i r xs h

-- the notes of a batch of events
abbrev pub notes_of_batch : ℕ → ℕ → State OpValue → List (Event OpValue × ℕ) → List Note
notes_of_batch n i r xs = map (λ x. Step x) (journaled.notes_of_all n i r xs)

-- The strings of a batch tell what its events make of the replica.
abbrev pub BatchesAreTold : Type 0
BatchesAreTold = (n i : ℕ) (r : State OpValue) (xs : List (Event OpValue × ℕ)) → journaled.StayAlike n i r xs →
    (t : Told) → journaled.IsKeptOf t.kept r → t.kept.staged ≡ [] → (strings : List (List ℕ)) →
    SpellAll (notes_of_batch n i r xs) strings →
    IsToldAfter n i r xs t strings

-- Strings tell one thing.
abbrev pub OneIsTold : Type 0
OneIsTold = (strings : List (List ℕ)) (t u v : Told) → Tells t strings u → Tells t strings v → u ≡ v

-- Strings, and then more.
abbrev pub ToldGoesOn : Type 0
ToldGoesOn = (old new : List (List ℕ)) (t u v : Told) → Tells t old u → Tells u new v → Tells t (old ++ new) v
