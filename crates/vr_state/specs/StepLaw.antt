-- What each step keeps, whatever the other replicas do. What holds of a whole cluster stands in the crate above, over
-- all schedules.
use Rattle.std.specs.Prelude.{◌≡◌, ℕ, ◌/◌, ◌<◌, ◌≤◌, ◌⊎◌, nat_le, Bool, true, false, List, [], ◌∷◌, ◌++◌, length, take, Some, slice_index}
use Rattle.log_entry.specs.declared.words.Client.{Client}
use Rattle.log_entry.specs.declared.words.LogEntry.{LogEntry}
use Rattle.vr_state.specs.declared.words.Latest.{Latest}
use Rattle.vr_state.specs.declared.words.Reply.{Reply}
use Rattle.vr_state.specs.declared.message.Change.{Change}
use Rattle.vr_state.specs.declared.event.Event.{Event}
use Rattle.vr_state.specs.declared.event.Event.TheVariants.{Request, Message}
use Rattle.vr_state.specs.declared.message.PeerMessage.TheVariants.{NewState}
use Rattle.vr_state.specs.Lists.{In, IsNamedIn}
use Rattle.vr_state.specs.State.{State, is_normal, is_recovering}
use Rattle.vr_state.specs.ClientTable.{latest}
use Rattle.vr_state.specs.Outcome.{others, count, noted}
use Rattle.vr_state.specs.NormalCase.{on_prepare_ok}
use Rattle.vr_state.specs.ViewChange.{best}
use Rattle.vr_state.specs.Step.{step}

-- A replica's view never falls, so none recovers below its stored view.
abbrev pub ViewsRise : Type 0 → Type 0
ViewsRise P = (n i : ℕ) (r : State P) (e : Event P) → r.view_number ≤ (step n i r e).state.view_number

-- Its commit-number never falls.
abbrev pub CommitsRise : Type 0 → Type 0
CommitsRise P = (n i : ℕ) (r : State P) (e : Event P) → r.commit_number ≤ (step n i r e).state.commit_number

-- A replica that isn't normal after a step has the log that it had: hearing of a later view cuts nothing.
abbrev pub LogIsKept : Type 0 → Type 0
LogIsKept P = (n i : ℕ) (r : State P) (e : Event P) → is_normal (step n i r e).state.status ≡ false →
    (step n i r e).state.log ≡ r.log

-- While a replica is normal in one view, its log gets no shorter.
abbrev pub LogOnlyGrows : Type 0 → Type 0
LogOnlyGrows P = (n i : ℕ) (r : State P) (e : Event P) →
    is_normal r.status ≡ true → (step n i r e).state.view_number ≡ r.view_number →
    length r.log ≤ length (step n i r e).state.log

-- The event is a NEWSTATE.
abbrev pub brings_tail : {P : Type 0} → Event P → Bool
brings_tail (Message from (NewState v x tail)) = true
brings_tail _ = false

-- The log of s is that of r, or has one record more; the last normal view is the same.
pub record GoesOn {P : Type 0} (r s : State P) : Type 0 where
  pub log : (s.log ≡ r.log) ⊎ ((e : LogEntry P) × (s.log ≡ r.log ++ e ∷ []))
  pub last : s.last_normal_view ≡ r.last_normal_view

-- While a replica is normal in one view, its log gets one record more at most, but at a NEWSTATE.
abbrev pub LogGoesOn : Type 0 → Type 0
LogGoesOn P = (n i : ℕ) (r : State P) (e : Event P) → brings_tail e ≡ false →
    is_normal r.status ≡ true → (step n i r e).state.view_number ≡ r.view_number → GoesOn r (step n i r e).state

-- A replica that isn't normal after a step has the last normal view that it had, and recovers if and only if it did.
abbrev pub LastIsKept : Type 0 → Type 0
LastIsKept P = (n i : ℕ) (r : State P) (e : Event P) → is_normal (step n i r e).state.status ≡ false →
    ((step n i r e).state.last_normal_view ≡ r.last_normal_view) × (is_recovering (step n i r e).state.status ≡
    is_recovering r.status)

-- A replica that recovers after a step is in the view that it had: only the end of its recovery moves it to another.
abbrev pub RecoversInItsView : Type 0 → Type 0
RecoversInItsView P = (n i : ℕ) (r : State P) (e : Event P) →
    is_recovering (step n i r e).state.status ≡ true → (step n i r e).state.view_number ≡ r.view_number

-- The client table's place is that of a record of this client, with the number that the table has.
abbrev pub LatestIsOfClient : Type 0 → Type 0
LatestIsOfClient P = (c : Client) (log : List (LogEntry P)) (last : Latest) → latest c log ≡ Some last →
    IsNamedIn (record { client = c; request_number = last.request_number; op_number = last.op_number }) log

-- Each reply of a step names one of the records that the replica has committed after it.
abbrev pub RepliesAreExecuted : Type 0 → Type 0
RepliesAreExecuted P = (n i : ℕ) (r : State P) (e : Event P) (reply : Reply) →
    In reply (step n i r e).replies → IsNamedIn reply (take (step n i r e).state.commit_number (step n i r e).state.log)

-- A request with a number not above the client's latest changes nothing.
abbrev pub RepeatsChangeNothing : Type 0 → Type 0
RepeatsChangeNothing P = (n i : ℕ) (r : State P) (e : LogEntry P) (last : Latest) →
    latest e.client r.log ≡ Some last → e.request_number ≤ last.request_number → (step n i r (Request e)).state ≡ r

-- What a PREPAREOK newly commits, f other replicas have acknowledged.
abbrev pub CommitsAreAcknowledged : Type 0 → Type 0
CommitsAreAcknowledged P = (n i : ℕ) (r : State P) (from v p : ℕ) →
    let s = (on_prepare_ok n i r from v p).state in
    (s.commit_number ≡ r.commit_number) ⊎ (n / 2 ≤ count (λ j. nat_le s.commit_number (slice_index s.acknowledged j))
    (others n i))

-- The log that a new primary takes is of the latest normal view among those noted, and the longest of that view.
abbrev pub BestIsTaken : Type 0 → Type 0
BestIsTaken P = (xs : List (ℕ × Change P)) (js : List ℕ) (c : Change P) → best xs js ≡ Some c →
    (j : ℕ) (d : Change P) → In j js → noted j xs ≡ Some d →
    (d.last_normal_view < c.last_normal_view) ⊎ ((d.last_normal_view ≡ c.last_normal_view)
    × (length d.log ≤ length c.log))
