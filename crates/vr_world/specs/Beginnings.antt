-- What logs in messages and logs of replicas have in common. What is committed is defined elsewhere: here stand the
-- numbers that replicas and messages have of it.
use Rattle.std.specs.Prelude.{◌≡◌, ℕ, ◌≤◌, List, [], take, length, Some}
use Rattle.vr_state.specs.Lists.{In}
use Rattle.vr_state.specs.State.{State}
use Rattle.vr_state.specs.Words.{LogEntry}
use Rattle.vr_state.specs.declared.message.PeerMessage.{PeerMessage}
use Rattle.vr_state.specs.declared.message.PeerMessage.TheVariants.{DoViewChange, StartView}
use Rattle.vr_world.specs.Law.{IsSize}
use Rattle.vr_world.specs.World.{Message, WorldEvent, after}

-- The whole log in a message that ends a view or begins one; no other message has one (VRR 4.2).
abbrev pub log_in : {P : Type 0} → PeerMessage P → List (LogEntry P)
log_in (DoViewChange v c) = c.log
log_in (StartView v held) = held.log
log_in _ = []

-- How much of that log its sender had committed (VRR 4.2).
abbrev pub committed_in : {P : Type 0} → PeerMessage P → ℕ
committed_in (DoViewChange v c) = c.commit_number
committed_in (StartView v held) = held.commit_number
committed_in _ = 0

-- Of the log in a message that was ever sent, and the log of a replica that is up, those first records are the same
-- that both have committed.
abbrev pub BeginningsAgree : Type 0 → Type 0
BeginningsAgree P = (n : ℕ) → IsSize n → (es : List (WorldEvent P)) (m : Message P) → In m (after n es).messages →
    (i : ℕ) (r : State P) → (after n es).replicas i ≡ Some r →
    (x : ℕ) → x ≤ committed_in m.body → x ≤ length (log_in m.body) → x ≤ r.commit_number → take x r.log ≡
    take x (log_in m.body)
