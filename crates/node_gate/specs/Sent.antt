-- What is handed to the way to the other replicas. What is lost on it is not said here.
use Rattle.std.specs.Prelude.{ℕ, List, [], ◌∷◌}
use Rattle.dir_node.specs.dir_store.ldap_op.Values.{OpValue}
use Rattle.dir_node.specs.vr_state.declared.message.PeerMessage.{PeerMessage}
use Rattle.dir_node.specs.vr_state.declared.message.Send.{Send}

-- A way to the other replicas took these messages, one after the other, and nothing else.
pub data TakesAll {P : Type 0} (takes : P → ℕ → PeerMessage OpValue → P → Type 0) : P → List (Send OpValue) → P →
    Type 0 where
  none : {p : P} → TakesAll takes p [] p
  next : {p q r : P} {sends : List (Send OpValue)} (send : Send OpValue) → takes p send.to send.message q →
      TakesAll takes q sends r →
      TakesAll takes p (send ∷ sends) r
