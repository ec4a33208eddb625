-- What messages weigh in a queue.
use Rattle.std.specs.Prelude.{ℕ, ◌+◌, ◌*◌, ◌-◌, ◌^◌, min, List, [], ◌∷◌, length, Option, Some, None}
use Rattle.vr_state.specs.Words.{LogEntry}
use Rattle.vr_state.specs.declared.message.Snapshot.{Snapshot}
use Rattle.vr_state.specs.declared.message.PeerMessage.{PeerMessage}
use Rattle.vr_state.specs.declared.message.PeerMessage.TheVariants.{Prepare, DoViewChange, StartView, NewState, RecoveryResponse}

-- the records of a log that an answer may hold
abbrev pub records_held : {P : Type 0} → Option (Snapshot P) → List (LogEntry P)
records_held None = []
records_held (Some held) = held.log

-- The records that a message tells.
abbrev pub records_in : {P : Type 0} → PeerMessage P → List (LogEntry P)
records_in (Prepare v e p x) = e ∷ []
records_in (DoViewChange v c) = c.log
records_in (StartView v held) = held.log
records_in (NewState v base tail) = tail.log
records_in (RecoveryResponse n r) = records_held r.held
records_in _ = []

-- 64 octets for a message, and as many for each record that it tells.
abbrev pub weight_of : {P : Type 0} → PeerMessage P → ℕ
weight_of m = min (length (records_in m) * 64 + 64) (2 ^ 64 - 1)
