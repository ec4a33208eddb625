-- Which messages octets can say: what a message is asked for before it is written.
use Rattle.std.specs.Prelude.{◌<◌, ◌^◌, List, length, Option, Some, None}
use Rattle.std.specs.List.{AllByRecursion}
use Rattle.ldap_op.specs.Grammar.{IsOp}
use Rattle.ldap_op.specs.Values.{OpValue}
use Rattle.ldap_op.specs.Written.{IsOpInRange, op_bytes}
use Rattle.vr_state.specs.Words.{LogEntry}
use Rattle.vr_state.specs.declared.message.PeerMessage.{PeerMessage}
use Rattle.vr_state.specs.declared.message.PeerMessage.TheVariants.{Prepare, PrepareOk, Commit, StartViewChange, DoViewChange, StartView, GetState}
use Rattle.vr_state.specs.declared.message.PeerMessage.TheVariants.{NewState, Recovery, RecoveryResponse}
use Rattle.vr_state.specs.declared.message.Snapshot.{Snapshot}
use Rattle.vr_wire.specs.Frames.{IsEntryInRange}
use Rattle.vr_wire.specs.Payloads.{written_entry}

-- the record is in range, and the octets of its update are read as it
pub record IsSpelled (e : LogEntry OpValue) : Type 0 where
  pub range : IsEntryInRange (written_entry e)
  pub payload : IsOp e.payload (op_bytes e.payload)

-- the record is in range, and so is its update
pub record CanBeSpelled (e : LogEntry OpValue) : Type 0 where
  pub range : IsEntryInRange (written_entry e)
  pub update : IsOpInRange e.payload

-- fewer than 2 ^ 32 records, each of which is so
abbrev pub LogIs : (LogEntry OpValue → Type 0) → List (LogEntry OpValue) → Type 0
LogIs Q es = (length es < 2 ^ 32) × AllByRecursion Q es

-- a log that is so, with a commit-number in range
abbrev pub HeldIs : (LogEntry OpValue → Type 0) → Snapshot OpValue → Type 0
HeldIs Q held = (held.commit_number < 2 ^ 63) × LogIs Q held.log

-- the same, where there is one
abbrev pub PerhapsIs : (LogEntry OpValue → Type 0) → Option (Snapshot OpValue) → Type 0
PerhapsIs Q None = Unit {0}
PerhapsIs Q (Some held) = HeldIs Q held

-- the message's numbers are in range, and its records are so
abbrev pub MessageIs : (LogEntry OpValue → Type 0) → PeerMessage OpValue → Type 0
MessageIs Q (Prepare v e p k) = (v < 2 ^ 63) × (p < 2 ^ 63) × (k < 2 ^ 63) × Q e
MessageIs Q (PrepareOk v p) = (v < 2 ^ 63) × (p < 2 ^ 63)
MessageIs Q (Commit v k) = (v < 2 ^ 63) × (k < 2 ^ 63)
MessageIs Q (StartViewChange v) = v < 2 ^ 63
MessageIs Q (DoViewChange v c) = (v < 2 ^ 63) × (c.last_normal_view < 2 ^ 63) × (c.commit_number < 2 ^ 63) × LogIs Q c.log
MessageIs Q (StartView v held) = (v < 2 ^ 63) × HeldIs Q held
MessageIs Q (Recovery x) = x < 2 ^ 63
MessageIs Q (RecoveryResponse x a) = (a.view_number < 2 ^ 63) × (x < 2 ^ 63) × PerhapsIs Q a.held
MessageIs Q (GetState v k) = (v < 2 ^ 63) × (k < 2 ^ 63)
MessageIs Q (NewState v x tail) = (v < 2 ^ 63) × (x < 2 ^ 63) × HeldIs Q tail
