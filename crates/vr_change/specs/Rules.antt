-- The rules of the view change, at a replica with its count and index. No rule is made here.
use Rattle.std.specs.Prelude.{ℕ}
use Rattle.vr_state.specs.declared.replica.Replica.{Replica}
use Rattle.vr_state.specs.declared.message.Change.{Change}
use Rattle.vr_state.specs.declared.message.Snapshot.{Snapshot}
use Rattle.vr_state.specs.Outcome.{Outcome}
use Rattle.vr_state.specs.ViewChange as rules
use Rattle.vr_state.specs.Views.{state}

-- The replica suspects the primary (VRR 4.2, step 1).
abbrev pub suspect_at : {P : Type 0} → Replica P → Outcome P
suspect_at r = rules.on_suspect r.count r.index (state r)

-- A STARTVIEWCHANGE(v) comes (VRR 4.2, steps 1 and 2).
abbrev pub start_view_change_at : {P : Type 0} → Replica P → ℕ → ℕ → Outcome P
start_view_change_at r from v = rules.on_start_view_change r.count r.index (state r) from v

-- A DOVIEWCHANGE(v, c) comes (VRR 4.2, steps 1 and 3).
abbrev pub do_view_change_at : {P : Type 0} → Replica P → ℕ → ℕ → Change P → Outcome P
do_view_change_at r from v c = rules.on_do_view_change r.count r.index (state r) from v c

-- A STARTVIEW(v, l, x) comes (VRR 4.2, step 5).
abbrev pub start_view_at : {P : Type 0} → Replica P → ℕ → Snapshot P → Outcome P
start_view_at r v held = rules.on_start_view r.count r.index (state r) v held

-- The timer of a replica that changes goes off (this project).
abbrev pub beat_changing_at : {P : Type 0} → Replica P → Outcome P
beat_changing_at r = rules.beat_changing r.count r.index (state r)
