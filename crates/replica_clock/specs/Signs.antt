-- What a message of another replica says of its sender, by the message's kind.
use Rattle.vr_state.specs.declared.message.PeerMessage.{PeerMessage}
use Rattle.vr_state.specs.declared.message.PeerMessage.TheVariants as kind
pub use Rattle.replica_clock.specs.declared.sign.Sign.{Sign}
use Rattle.replica_clock.specs.declared.sign.Sign.TheVariants.{Leads, Lost, Other}

-- The primary of a view alone sends PREPARE, COMMIT and STARTVIEW of it, and a NEWSTATE of it shows that it has begun
-- (VRR 4.1, 4.2, 5.2). A replica that sends RECOVERY has lost its state (VRR 4.3).
abbrev pub sign_of : {P : Type 0} → PeerMessage P → Sign
sign_of (kind.Prepare v e p k) = Leads v
sign_of (kind.PrepareOk v p) = Other
sign_of (kind.Commit v k) = Leads v
sign_of (kind.StartViewChange v) = Other
sign_of (kind.DoViewChange v c) = Other
sign_of (kind.StartView v held) = Leads v
sign_of (kind.GetState v k) = Other
sign_of (kind.NewState v x tail) = Leads v
sign_of (kind.Recovery x) = Lost
sign_of (kind.RecoveryResponse x a) = Other
