-- The rules of the normal case, at a replica with its count and index: what contracts that aren't public say of it.
-- What public contracts say is in specs/Rules.
use Rattle.std.specs.Prelude.{ℕ, ◌-◌, ◌/◌, cond, nat_le, List, [], ◌∷◌, length, slice_get}
use Rattle.vr_state.specs.declared.replica.Replica.{Replica}
use Rattle.vr_state.specs.State.{State}
use Rattle.vr_state.specs.Words.{LogEntry}
use Rattle.vr_state.specs.Views.{state}
use Rattle.vr_state.specs.Outcome.{Outcome, send_to, to_all, commit_to, others}
use Rattle.vr_state.specs.declared.words.Reply.{Reply}
use Rattle.vr_state.specs.declared.message.Send.{Send}
use Rattle.vr_state.specs.declared.message.PeerMessage.TheVariants.{PrepareOk, Commit, GetState}
use Rattle.vr_state.specs.NormalCase as rules
use Rattle.vr_normal.specs.Rules.{with_acknowledgement}

-- A record is appended and prepared at the others (VRR 4.1, step 3).
abbrev pub prepare_at : {P : Type 0} → Replica P → LogEntry P → Outcome P
prepare_at r e = rules.prepare r.count r.index (state r) e

-- The reply to a request whose record is executed at place p (VRR 4.1, step 2).
abbrev pub reply_again : {P : Type 0} → LogEntry P → ℕ → List Reply
reply_again e p = record { client = e.client; request_number = e.request_number; op_number = p } ∷ []

-- The PREPARE is of the backup's view: it takes the record in, learns of the commit and answers (VRR 4.1, steps 4 and
-- 7).
abbrev pub taken_in_at : {P : Type 0} → Replica P → ℕ → ℕ → LogEntry P → ℕ → ℕ → Outcome P
taken_in_at r from v e p x = rules.answer_prepare from v p (commit_to x (rules.take_in e p (state r)))

-- The answer to a PREPARE for place p of a backup that has so many records, k of them committed (VRR 4.1, step 4; 5.2).
abbrev pub acknowledge_or_ask : {P : Type 0} → ℕ → ℕ → ℕ → ℕ → ℕ → List (Send P)
acknowledge_or_ask from v p held k =
    cond (nat_le p held) (send_to from (PrepareOk v held) ∷ []) (send_to from (GetState v k) ∷ [])

-- What so many records of each replica let the primary commit and answer (VRR 4.1, step 5).
abbrev pub counted : {P : Type 0} → ℕ → ℕ → State P → List ℕ → Outcome P
counted n i r acknowledged =
    rules.commit_and_answer (rules.reached (n / 2) acknowledged (others n i) (others n i))
    (record r { acknowledged = acknowledged })

-- The PREPAREOK is of the primary's view: it is noted, and what f others have is committed and answered (VRR 4.1, step
-- 5).
abbrev pub acknowledged_at : {P : Type 0} → Replica P → ℕ → ℕ → Outcome P
acknowledged_at r from p =
    counted r.count r.index (state r) (with_acknowledgement r.acknowledged.items from p)

-- A GETSTATE, where not all of x committed records are held, from those on that are committed once it knows (VRR 4.1,
-- step 7).
abbrev pub ask_if_short_at : {P : Type 0} → Replica P → ℕ → ℕ → ℕ → List (Send P)
ask_if_short_at r from v x = (rules.ask_if_short from v x (commit_to x (state r))).sends

-- The log's last record is prepared again (this project).
abbrev pub prepare_again_at : {P : Type 0} → Replica P → List (Send P)
prepare_again_at r = rules.prepare_again r.count r.index (state r) (slice_get r.log (length r.log - 1))

-- How much is committed, to all others (VRR 4.1, step 6).
abbrev pub tell_commit_at : {P : Type 0} → Replica P → List (Send P)
tell_commit_at r = to_all r.count r.index (Commit r.view_number r.commit_number)
