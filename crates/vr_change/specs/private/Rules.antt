-- The rules of the view change, at a replica with its count and index: what contracts that aren't public say of it.
-- What public contracts say is in specs/Rules.
use Rattle.std.specs.Prelude.{ℕ, ◌/◌, ◌==◌, ◌&&◌, Bool, cond, nat_lt, Option, Some, List}
use Rattle.vr_state.specs.declared.replica.Replica.{Replica}
use Rattle.vr_state.specs.declared.message.Change.{Change}
use Rattle.vr_state.specs.declared.message.PeerMessage.TheVariants.{StartViewChange, StartView}
use Rattle.vr_state.specs.Words.{LogEntry}
use Rattle.vr_state.specs.declared.message.Send.{Send}
use Rattle.vr_state.specs.declared.message.Snapshot.{Snapshot}
use Rattle.vr_state.specs.Outcome.{Outcome, after_sends, idle, count, indices, is_noted, to_all}
use Rattle.vr_state.specs.State.{State, primary}
use Rattle.vr_state.specs.ViewChange as rules
use Rattle.vr_state.specs.Views.{state}
use Rattle.vr_change.specs.declared.left.Left.{Left}

-- It is of a later view: the replica enters that, says so, and notes the sender (VRR 4.2, steps 1 and 2).
abbrev pub start_entering_at : {P : Type 0} → Replica P → ℕ → ℕ → Outcome P
start_entering_at r from v =
    after_sends (to_all r.count r.index (StartViewChange v)) (rules.note_start r.count r.index
    (rules.enter r.count v (state r)) from)

-- It isn't of a later view: the sender is noted, if the replica changes to that view (VRR 4.2, step 2).
abbrev pub start_in_view_at : {P : Type 0} → Replica P → ℕ → ℕ → Outcome P
start_in_view_at r from v =
    cond (rules.is_changing_in (state r) v) (rules.note_start r.count r.index (state r) from) (idle (state r))

-- Its sender is noted, and at the f-th the DOVIEWCHANGE is made (VRR 4.2, step 2).
abbrev pub note_start_at : {P : Type 0} → Replica P → ℕ → Outcome P
note_start_at r from = rules.note_start r.count r.index (state r) from

-- The DOVIEWCHANGE is made (VRR 4.2, step 2).
abbrev pub declare_at : {P : Type 0} → Replica P → Outcome P
declare_at r = rules.declare r.count r.index (state r)

-- The messages that go with it, unless the replica is the new primary itself (VRR 4.2, step 2).
abbrev pub send_change_at : {P : Type 0} → Replica P → List (Send P)
send_change_at r = rules.send_change r.count r.index (state r)

-- At the new primary it is noted, and with f + 1 the view begins (VRR 4.2, step 3).
abbrev pub note_change_at : {P : Type 0} → Replica P → ℕ → Change P → Outcome P
note_change_at r from c = rules.try_begin r.count r.index (rules.note_change from c (state r))

-- At any other replica it only says that there is a view v.
abbrev pub note_change_in : {P : Type 0} → ℕ → ℕ → State P → ℕ → ℕ → Change P → Outcome P
note_change_in n i r from v c = cond (primary n v == i) (rules.try_begin n i (rules.note_change from c r)) (idle r)

-- The same, at a replica in view v.
abbrev pub note_change_in_at : {P : Type 0} → Replica P → ℕ → ℕ → Change P → Outcome P
note_change_in_at r from v c = note_change_in r.count r.index (state r) from v c

-- It isn't of a later view: it is noted, if the replica changes to that view (VRR 4.2, step 3).
abbrev pub do_in_view_at : {P : Type 0} → Replica P → ℕ → ℕ → Change P → Outcome P
do_in_view_at r from v c = cond (rules.is_changing_in (state r) v) (note_change_in r.count r.index (state r) from v c)
    (idle (state r))

-- It is of a later view: the replica enters that, says so, and notes it if it is the primary (VRR 4.2, steps 1 and 3).
abbrev pub do_entering_at : {P : Type 0} → Replica P → ℕ → ℕ → Change P → Outcome P
do_entering_at r from v c =
    after_sends (to_all r.count r.index (StartViewChange v)) (note_change_in r.count r.index
    (rules.enter r.count v (state r)) from v c)

-- With f + 1 DOVIEWCHANGEs, its own among them, the new view begins (VRR 4.2, step 3).
abbrev pub try_begin_at : {P : Type 0} → Replica P → Outcome P
try_begin_at r = rules.try_begin r.count r.index (state r)

-- That many are noted.
abbrev pub may_begin_at : {P : Type 0} → Replica P → Bool
may_begin_at r =
    is_noted r.do_view_changes.items r.index && nat_lt (r.count / 2) (count (is_noted r.do_view_changes.items)
    (indices r.count))

-- The best of the DOVIEWCHANGEs that are noted (VRR 4.2, step 3).
abbrev pub best_at : {P : Type 0} → Replica P → Option (Change P)
best_at r = rules.best r.do_view_changes.items (indices r.count)

-- The new view begins with this one (VRR 4.2, steps 3 and 4).
abbrev pub begin_view_at : {P : Type 0} → Replica P → Change P → Outcome P
begin_view_at r c = rules.begin_view r.count r.index (state r) (Some c)

-- The STARTVIEWs that say so (VRR 4.2, step 3).
abbrev pub start_view_sends_at : {P : Type 0} → Replica P → List (LogEntry P) → ℕ → List (Send P)
start_view_sends_at r log k = to_all r.count r.index (StartView r.view_number (record { log = log; commit_number = k }))

-- Its log is adopted, and acknowledged (VRR 4.2, step 5).
abbrev pub take_over_at : {P : Type 0} → Replica P → ℕ → Snapshot P → Outcome P
take_over_at r v held = rules.take_over r.count r.index (state r) v held

-- A replica that has entered a view goes back to what it had before it entered.
abbrev pub put_back : {P : Type 0} → Left P → State P → State P
put_back left r = record r {
  view_number = left.view_number;
  status = left.status;
  acknowledged = left.acknowledged.items;
  start_view_changes = left.start_view_changes.items;
  do_view_changes = left.do_view_changes.items;
}
