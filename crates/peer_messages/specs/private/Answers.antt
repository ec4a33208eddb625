-- Answers that replicas ask for, and which of them are long.
use Rattle.std.specs.Prelude.{◌≡◌, ℕ, ◌+◌, ◌==◌, cond, List, [], ◌∷◌, length, Option, Some, None}
use Rattle.std.specs.Option.{option_map}
use Rattle.ldap_op.specs.Values.{OpValue}
use Rattle.ldap_op.specs.Written.{HasNoSpelling, op_bytes}
use Rattle.vr_state.specs.Words.{LogEntry}
use Rattle.vr_state.specs.declared.message.PeerMessage.{PeerMessage}
use Rattle.vr_state.specs.declared.message.PeerMessage.TheVariants.{NewState, RecoveryResponse}

-- The records of an answer: to a replica that lacks some, or that recovers and asks the primary.
abbrev pub answer_in : {P : Type 0} → PeerMessage P → Option (List (LogEntry P))
answer_in (NewState v base tail) = Some tail.log
answer_in (RecoveryResponse n r) = option_map (λ held. held.log) r.held
answer_in _ = None

-- its update has octets
abbrev pub HasSpelling : LogEntry OpValue → Type 0
HasSpelling e = HasNoSpelling e.payload → ⊥

-- how many octets the updates of these records have
abbrev pub octets_in : List (LogEntry OpValue) → ℕ
octets_in [] = 0
octets_in (e ∷ es) = length (op_bytes e.payload) + octets_in es

-- No long answer is being sent to another replica than this.
abbrev pub MayBegin : Option ℕ → ℕ → Type 0
MayBegin None to = Unit {0}
MayBegin (Some other) to = other ≡ to

-- to which one is being sent, after the one to this replica has ended
abbrev pub ended : Option ℕ → ℕ → Option ℕ
ended None to = None
ended (Some other) to = cond (other == to) None (Some other)
