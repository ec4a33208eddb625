-- The whole logs that messages of a view change carry (VRR 4.2).
use Rattle.std.specs.Prelude.{List, Option, Some, None}
use Rattle.vr_state.specs.Words.{LogEntry}
use Rattle.vr_state.specs.declared.message.PeerMessage.{PeerMessage}
use Rattle.vr_state.specs.declared.message.PeerMessage.TheVariants.{DoViewChange, StartView}

-- The whole log in a message that ends a view or begins one; no other message has one.
abbrev pub carried_log : {P : Type 0} → PeerMessage P → Option (List (LogEntry P))
carried_log (DoViewChange v c) = Some c.log
carried_log (StartView v held) = Some held.log
carried_log _ = None

-- The message with this log in the place of its own; one without a log stays.
abbrev pub with_log : {P : Type 0} → List (LogEntry P) → PeerMessage P → PeerMessage P
with_log l (DoViewChange v c) = DoViewChange v (record c { log = l })
with_log l (StartView v held) = StartView v (record held { log = l })
with_log l m = m
