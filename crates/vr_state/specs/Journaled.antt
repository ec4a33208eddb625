-- What is noted of a step in a journal, and what notes stand for. What is kept after them. How a note is spelled, and
-- when it is settled, is not said here.
use Rattle.std.specs.Prelude.{◌≡◌, ◌⊎◌, ℕ, ◌≤◌, max, Bool, true, not, cond, ◌&&◌, ◌==◌, nat_lt, List, [], ◌∷◌, ◌++◌, length, take, drop, map}
use Rattle.vr_state.specs.State.{State, LogEntry, is_normal, is_recovering}
use Rattle.vr_state.specs.Step.{Event, step}
use Rattle.vr_state.specs.StepLaw.{brings_tail}

-- One note: a view was entered; a record was appended; a record waits to be adopted; a log was adopted: its first base
-- records stay, and those that wait come behind them. k is how much is known to be committed.
pub data Note (P : Type 0) : Type 0 where
  Enter : (view : ℕ) → Note P
  Record : (k : ℕ) (e : LogEntry P) → Note P
  Stage : (e : LogEntry P) → Note P
  Adopt : (view last base k : ℕ) → Note P

-- What notes stand for: a replica as it would go on, records that wait, and whether all of it may be gone on from.
pub record Kept (P : Type 0) : Type 0 where
  pub view : ℕ
  pub last : ℕ
  pub log : List (LogEntry P)
  pub k : ℕ
  pub staged : List (LogEntry P)
  pub whole : Bool

-- after one note
abbrev pub noted_by : {P : Type 0} → Kept P → Note P → Kept P
noted_by h (Enter v) = record h { view = v; staged = [] }
noted_by h (Record k e) = record h { log = h.log ++ e ∷ []; k = max h.k k; staged = [] }
noted_by h (Stage e) = record h { staged = h.staged ++ e ∷ [] }
noted_by h (Adopt v last base k) = record {
  view = v;
  last = last;
  log = take base h.log ++ h.staged;
  k =
      max h.k k;
  staged = [];
  whole = true;
}

-- after these notes
abbrev pub after_notes : {P : Type 0} → Kept P → List (Note P) → Kept P
after_notes h [] = h
after_notes h (x ∷ xs) = after_notes (noted_by h x) xs

-- What is noted of a step from r to s at an event, whose logs have their first base records alike.
abbrev pub notes_of : {P : Type 0} → State P → State P → Event P → ℕ → List (Note P)
notes_of r s e base =
    cond (is_normal s.status)
    (cond (is_normal r.status && (r.view_number == s.view_number && not (brings_tail e)))
    (map (λ x. Record s.commit_number x) (drop (length r.log) s.log))
    (map (λ x. Stage x) (drop base s.log) ++ Adopt s.view_number s.last_normal_view base s.commit_number ∷ []))
    (cond (nat_lt r.view_number s.view_number) (Enter s.view_number ∷ []) [])

-- This is kept of the replica: it would go on as it is, with as much committed or less.
pub record IsKeptOf {P : Type 0} (h : Kept P) (r : State P) : Type 0 where
  pub view : h.view ≡ r.view_number
  pub last : h.last ≡ r.last_normal_view
  pub log : h.log ≡ r.log
  pub low : h.k ≤ r.commit_number
  pub whole : h.whole ≡ not (is_recovering r.status)

-- A step is journaled: after all its notes the replica is kept as it is after the step, and after some first of them as
-- it is before or after.
pub record IsJournaled {P : Type 0} (h : Kept P) (r s : State P) (notes : List (Note P)) : Type 0 where
  pub all : IsKeptOf (after_notes h notes) s
  pub none_waits : (after_notes h notes).staged ≡ []
  pub some : (m : ℕ) → IsKeptOf (after_notes h (take m notes)) r ⊎ IsKeptOf (after_notes h (take m notes)) s

-- Each step is journaled.
abbrev pub StepsAreJournaled : Type 0 → Type 0
StepsAreJournaled P = (n i : ℕ) (r : State P) (e : Event P) (base : ℕ) → take base r.log ≡
    take base (step n i r e).state.log →
    (h : Kept P) → IsKeptOf h r → h.staged ≡ [] → IsJournaled h r (step n i r e).state
    (notes_of r (step n i r e).state e base)

-- the state after these events; beside each stands how much of the log stays alike in its step
abbrev pub after_events : {P : Type 0} → ℕ → ℕ → State P → List (Event P × ℕ) → State P
after_events n i r [] = r
after_events n i r (x ∷ xs) = after_events n i (step n i r x.0).state xs

-- what is noted of these events
abbrev pub notes_of_all : {P : Type 0} → ℕ → ℕ → State P → List (Event P × ℕ) → List (Note P)
notes_of_all n i r [] = []
notes_of_all n i r (x ∷ xs) = notes_of r (step n i r x.0).state x.0 x.1 ++ notes_of_all n i (step n i r x.0).state xs

-- In each step so many first records stay alike.
abbrev pub StayAlike : {P : Type 0} → ℕ → ℕ → State P → List (Event P × ℕ) → Type 0
StayAlike n i r [] = Unit {0}
StayAlike n i r (x ∷ xs) = (take x.1 r.log ≡ take x.1 (step n i r x.0).state.log)
    × StayAlike n i (step n i r x.0).state xs

-- What is kept is of the replica after some first of these events.
pub record IsKeptOfSome {P : Type 0} (n i : ℕ) (r : State P) (xs : List (Event P × ℕ)) (h : Kept P) : Type 0 where
  pub count : ℕ
  pub kept : IsKeptOf h (after_events n i r (take count xs))

-- A batch of events is journaled: all its notes keep the replica as it is after all of them, and some first of its
-- notes as it is after some first of them.
abbrev pub BatchesAreJournaled : Type 0 → Type 0
BatchesAreJournaled P = (n i : ℕ) (r : State P) (xs : List (Event P × ℕ)) → StayAlike n i r xs → (h : Kept P) →
    IsKeptOf h r → h.staged ≡ [] →
    IsKeptOf (after_notes h (notes_of_all n i r xs)) (after_events n i r xs)
    × ((after_notes h (notes_of_all n i r xs)).staged ≡ [])
    × ((m : ℕ) → IsKeptOfSome n i r xs (after_notes h (take m (notes_of_all n i r xs))))
