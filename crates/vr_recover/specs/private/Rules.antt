-- The rules of recovery and state transfer, and the whole step, at a replica with its count and index: what contracts
-- that aren't public say of it. What public contracts say is in specs/Rules.
use Rattle.std.specs.Prelude.{ℕ, ◌/◌, ◌==◌, ◌&&◌, Bool, cond, nat_lt, nat_le, Option, Some, None}
use Rattle.vr_state.specs.declared.message.PeerMessage.{PeerMessage}
use Rattle.vr_state.specs.declared.message.Response.{Response}
use Rattle.vr_state.specs.declared.message.Snapshot.{Snapshot}
use Rattle.vr_state.specs.declared.replica.Replica.{Replica}
use Rattle.vr_state.specs.Outcome.{Outcome, count, indices, is_noted, noted, snapshot}
use Rattle.vr_state.specs.Recovery as recovery
use Rattle.vr_state.specs.State.{primary}
use Rattle.vr_state.specs.StateTransfer as transfer
use Rattle.vr_state.specs.Step as steps
use Rattle.vr_state.specs.ViewChange as changes
use Rattle.vr_state.specs.Views.{state}

-- It is normal in v and has x records (VRR 5.2).
abbrev pub can_answer_at : {P : Type 0} → Replica P → ℕ → ℕ → Bool
can_answer_at r v x = transfer.can_answer (state r) v x

-- The state is new to it (VRR 5.2).
abbrev pub is_news_at : {P : Type 0} → Replica P → ℕ → ℕ → Snapshot P → Bool
is_news_at r v x tail = transfer.is_news (state r) v x tail

-- News are joined, or asked for again (VRR 5.2).
abbrev pub take_news_at : {P : Type 0} → Replica P → ℕ → ℕ → ℕ → Snapshot P → Outcome P
take_news_at r from v x tail = transfer.take_news r.count r.index (state r) from v x tail

-- Its own first x records and the tail are adopted, and acknowledged (VRR 5.2).
abbrev pub take_joined_at : {P : Type 0} → Replica P → ℕ → ℕ → Snapshot P → Outcome P
take_joined_at r v x tail = changes.take_over r.count r.index (state r) v (transfer.joined (state r) x tail)

-- What the answer to it holds: the log, at the primary of the view (VRR 4.3, step 2).
abbrev pub held_at : {P : Type 0} → Replica P → Option (Snapshot P)
held_at r = cond (primary r.count r.view_number == r.index) (Some (snapshot (state r))) None

-- The response is of its recovery: it is kept, and ends the recovery where it can (VRR 4.3, step 3).
abbrev pub kept_at : {P : Type 0} → Replica P → ℕ → Response P → Outcome P
kept_at r from a = recovery.try_recovery r.count r.index
    (record (state r) { responses = recovery.keep from a r.responses.items })

-- The recovery ends where it can (VRR 4.3, step 3).
abbrev pub try_recovery_at : {P : Type 0} → Replica P → Outcome P
try_recovery_at r = recovery.try_recovery r.count r.index (state r)

-- With f + 1 responses whose latest view is v, a view not below its own, it can (VRR 4.3, step 3).
abbrev pub may_end_at : {P : Type 0} → Replica P → ℕ → Bool
may_end_at r v =
    nat_lt (r.count / 2) (count (is_noted r.responses.items) (indices r.count)) && nat_le r.view_number v

-- What the primary of view v has answered (VRR 4.3, step 3).
abbrev pub answered_at : {P : Type 0} → Replica P → ℕ → Option (Snapshot P)
answered_at r v = recovery.held_in v (noted (primary r.count v) r.responses.items)

-- It ends with that (VRR 4.3, step 3).
abbrev pub end_recovery_at : {P : Type 0} → Replica P → ℕ → Option (Snapshot P) → Outcome P
end_recovery_at r v held = recovery.end_recovery r.count r.index (state r) v held

-- F + 1 have answered, all in views below its own (this project).
abbrev pub is_ahead_at : {P : Type 0} → Replica P → Bool
is_ahead_at r = recovery.is_ahead r.count (state r)

-- A timer goes off.
abbrev pub beat_at : {P : Type 0} → Replica P → Outcome P
beat_at r = steps.on_beat r.count r.index (state r) r.status

-- A suspicion comes.
abbrev pub suspicion_at : {P : Type 0} → Replica P → Outcome P
suspicion_at r = steps.on_suspicion r.count r.index (state r) r.status

-- A message of another replica comes.
abbrev pub peer_message_at : {P : Type 0} → Replica P → ℕ → PeerMessage P → Outcome P
peer_message_at r from m = steps.on_peer_message r.count r.index (state r) from m

-- A message comes.
abbrev pub message_at : {P : Type 0} → Replica P → ℕ → PeerMessage P → Outcome P
message_at r from m = steps.on_message r.count r.index (state r) from m
