-- The rules of recovery and state transfer, and the whole step, at a replica with its count and index. No rule is made
-- here.
use Rattle.std.specs.Prelude.{ℕ}
use Rattle.vr_state.specs.declared.event.Event.{Event}
use Rattle.vr_state.specs.declared.message.PeerMessage.TheVariants.{Recovery}
use Rattle.vr_state.specs.declared.message.Response.{Response}
use Rattle.vr_state.specs.declared.message.Snapshot.{Snapshot}
use Rattle.vr_state.specs.declared.replica.Replica.{Replica}
use Rattle.vr_state.specs.Outcome.{Outcome, sending, to_all}
use Rattle.vr_state.specs.Recovery as recovery
use Rattle.vr_state.specs.State.{recovering}
use Rattle.vr_state.specs.StateTransfer as transfer
use Rattle.vr_state.specs.Step as steps
use Rattle.vr_state.specs.Views.{state}

-- A GETSTATE(v, x) comes (VRR 5.2).
abbrev pub get_state_at : {P : Type 0} → Replica P → ℕ → ℕ → ℕ → Outcome P
get_state_at r from v x = transfer.on_get_state (state r) from v x

-- A NEWSTATE(v, x, l, k) comes (VRR 5.2).
abbrev pub new_state_at : {P : Type 0} → Replica P → ℕ → ℕ → ℕ → Snapshot P → Outcome P
new_state_at r from v x tail = transfer.on_new_state r.count r.index (state r) from v x tail

-- A RECOVERY(x) comes (VRR 4.3, step 2).
abbrev pub recovery_at : {P : Type 0} → Replica P → ℕ → ℕ → Outcome P
recovery_at r from x = recovery.on_recovery r.count r.index (state r) from x

-- A RECOVERYRESPONSE(x, a) comes (VRR 4.3, step 3).
abbrev pub recovery_response_at : {P : Type 0} → Replica P → ℕ → ℕ → Response P → Outcome P
recovery_response_at r from x a = recovery.on_recovery_response r.count r.index (state r) from x a

-- The timer of a replica that recovers goes off (this project).
abbrev pub beat_recovering_at : {P : Type 0} → Replica P → Outcome P
beat_recovering_at r = recovery.beat_recovering r.count r.index (state r)

-- A suspicion comes while it recovers (this project).
abbrev pub remind_at : {P : Type 0} → Replica P → Outcome P
remind_at r = recovery.remind r.count r.index (state r)

-- Replica i of n comes back in its stored view v with nonce x, and asks all others (VRR 4.3, step 1).
abbrev pub recovers : {P : Type 0} → ℕ → ℕ → ℕ → ℕ → Outcome P
recovers n i v x = sending (recovering n v x) (to_all n i (Recovery x))

-- Any event comes.
abbrev pub step_at : {P : Type 0} → Replica P → Event P → Outcome P
step_at r e = steps.step r.count r.index (state r) e
