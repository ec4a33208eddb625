-- The rules of the normal case, at a replica with its count and index. No rule is made here.
use Rattle.std.specs.Prelude.{ℕ, ◌/◌, max, nat_le, List, length, slice_index, slice_set}
use Rattle.vr_state.specs.declared.replica.Replica.{Replica}
use Rattle.vr_state.specs.Words.{LogEntry}
use Rattle.vr_state.specs.Views.{state}
use Rattle.vr_state.specs.Outcome.{Outcome, count, others}
use Rattle.vr_state.specs.NormalCase as rules

-- A request comes (VRR 4.1, steps 1 to 3).
abbrev pub request_at : {P : Type 0} → Replica P → LogEntry P → Outcome P
request_at r e = rules.on_request r.count r.index (state r) e

-- A PREPARE(v, e, p, x) comes (VRR 4.1, steps 4 and 7).
abbrev pub on_prepare_at : {P : Type 0} → Replica P → ℕ → ℕ → LogEntry P → ℕ → ℕ → Outcome P
on_prepare_at r from v e p x = rules.on_prepare r.count r.index (state r) from v e p x

-- A PREPAREOK(v, p) comes (VRR 4.1, step 5).
abbrev pub on_prepare_ok_at : {P : Type 0} → Replica P → ℕ → ℕ → ℕ → Outcome P
on_prepare_ok_at r from v p = rules.on_prepare_ok r.count r.index (state r) from v p

-- The acknowledgements with one more, that `from` has p records; they never fall.
abbrev pub with_acknowledgement : List ℕ → ℕ → ℕ → List ℕ
with_acknowledgement acknowledged from p = slice_set acknowledged from (max (slice_index acknowledged from) p)

-- How many of all but i have at least x records.
abbrev pub acknowledging : List ℕ → ℕ → ℕ → ℕ
acknowledging acknowledged i x = count (λ k. nat_le x (slice_index acknowledged k)) (others (length acknowledged) i)

-- The greatest number of records that half of all, rounded down, have beside i; 0 if there is none (VRR 4.1, step 5).
abbrev pub reached_beside : List ℕ → ℕ → ℕ
reached_beside acknowledged i =
    rules.reached (length acknowledged / 2) acknowledged (others (length acknowledged) i)
    (others (length acknowledged) i)

-- A COMMIT(v, x) comes (VRR 4.1, steps 6 and 7).
abbrev pub on_commit_at : {P : Type 0} → Replica P → ℕ → ℕ → ℕ → Outcome P
on_commit_at r from v x = rules.on_commit r.count r.index (state r) from v x

-- The primary's timer goes off (VRR 4.1, step 6).
abbrev pub beat_at : {P : Type 0} → Replica P → Outcome P
beat_at r = rules.beat_primary r.count r.index (state r)
