-- What messages are sent for that are made again for the same, where they don't come.
use Rattle.std.specs.Prelude.{◌≡◌, ℕ, Option, Some, None}
use Rattle.vr_state.specs.declared.message.Snapshot.{Snapshot}
use Rattle.vr_state.specs.declared.message.PeerMessage.{PeerMessage}
use Rattle.vr_state.specs.declared.message.PeerMessage.TheVariants.{DoViewChange, NewState, RecoveryResponse}
use Rattle.peer_messages.specs.declared.errands.Errand.{Errand}
use Rattle.peer_messages.specs.declared.errands.Errand.TheVariants.{Change, Recovery, State}

-- the answer to a recovery: one without a log is short, and is made again at no cost
abbrev pub recovery_of : {P : Type 0} → ℕ → Option (Snapshot P) → Option Errand
recovery_of nonce None = None
recovery_of nonce (Some held) = Some (Recovery nonce)

-- What a message is sent for: a change to a view, a recovery, or the records of a view behind so many.
abbrev pub errand_of : {P : Type 0} → PeerMessage P → Option Errand
errand_of (DoViewChange v c) = Some (Change v)
errand_of (RecoveryResponse n r) = recovery_of n r.held
errand_of (NewState v base tail) = Some (State v base)
errand_of _ = None

-- Both are sent for something, and for the same.
abbrev pub AreForOne : Option Errand → Option Errand → Type 0
AreForOne (Some e) (Some f) = e ≡ f
AreForOne a b = ⊥

-- the view that a DOVIEWCHANGE is for
abbrev pub change_of : {P : Type 0} → PeerMessage P → Option ℕ
change_of (DoViewChange v c) = Some v
change_of _ = None
