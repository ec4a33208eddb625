-- Events that can't have a replica adopt a log: a step at one of them notes one string at most, and how long that is,
-- is known before the step.
use Rattle.std.specs.Prelude.{◌≡◌, ◌≤◌, ◌⊎◌, ℕ, Bool, true, false, not, ◌&&◌, ◌==◌, List, [], ◌∷◌, ◌++◌, length, drop, Option, Some, None}
use Rattle.std.specs.List.{list_any}
use Rattle.ldap_op.specs.Values.{OpValue}
use Rattle.ldap_op.specs.Written.{op_bytes}
use Rattle.vr_state.specs.State.{State, primary, is_normal, is_recovering, is_behind}
use Rattle.vr_state.specs.Words.{LogEntry}
use Rattle.vr_state.specs.declared.event.Event.{Event}
use Rattle.vr_state.specs.declared.event.Event.TheVariants.{Request, Message}
use Rattle.vr_state.specs.declared.message.PeerMessage.{PeerMessage}
use Rattle.vr_state.specs.declared.message.PeerMessage.TheVariants.{Prepare, StartViewChange, DoViewChange, StartView, NewState, RecoveryResponse}
use Rattle.log_journal.specs.Steps.{only_grew}
use Rattle.log_journal.specs.declared.steps.Before.{Before}

-- the record that an event brings
abbrev pub brings : {P : Type 0} → Event P → Option (LogEntry P)
brings (Request e) = Some e
brings (Message from (Prepare v e p x)) = Some e
brings e = None

-- The replica is to begin this view, which it isn't normal in yet.
abbrev pub may_lead : {P : Type 0} → ℕ → ℕ → State P → ℕ → Bool
may_lead n i r v = is_behind r v && primary n v == i

-- A STARTVIEWCHANGE was noted already.
abbrev pub has_heard : {P : Type 0} → State P → ℕ → ℕ → Bool
has_heard r from v = r.view_number == v && list_any (λ j. j == from) r.start_view_changes

-- The message can't have the replica adopt a log.
abbrev pub is_light_message : {P : Type 0} → ℕ → ℕ → State P → ℕ → PeerMessage P → Bool
is_light_message n i r from (StartViewChange v) = not (may_lead n i r v && not (has_heard r from v))
is_light_message n i r from (DoViewChange v c) = not (may_lead n i r v)
is_light_message n i r from (StartView v held) = not (is_behind r v)
is_light_message n i r from (NewState v x tail) = false
is_light_message n i r from (RecoveryResponse x a) = not (is_recovering r.status)
is_light_message n i r from m = true

-- The event can't have the replica adopt a log.
abbrev pub is_light : {P : Type 0} → ℕ → ℕ → State P → Event P → Bool
is_light n i r (Message from m) = is_light_message n i r from m
is_light n i r e = true

-- The step from r to s adds this record to the log, or none, and s isn't normal where r wasn't, or in another view.
pub record IsLightStep {P : Type 0} (o : Option (LogEntry P)) (r s : State P) : Type 0 where
  pub log : (s.log ≡ r.log) ⊎ ((x : LogEntry P) × (o ≡ Some x) × (s.log ≡ r.log ++ x ∷ []))
  pub status : (is_normal s.status ≡ false) ⊎ ((is_normal r.status ≡ true) × (s.view_number ≡ r.view_number))

-- The octets of the update that an event brings are so many at most.
abbrev pub HasOctets : ℕ → Option (LogEntry OpValue) → Type 0
HasOctets room o = (x : LogEntry OpValue) → o ≡ Some x → length (op_bytes x.payload) ≤ room

-- There is one record at most, whose update has so many octets at most.
abbrev pub IsOneAtMost : ℕ → List (LogEntry OpValue) → Type 0
IsOneAtMost room [] = Unit {0}
IsOneAtMost room (x ∷ []) = length (op_bytes x.payload) ≤ room
IsOneAtMost room (x ∷ y ∷ l) = ⊥

-- What is noted of a step to s is one string at most: a view was entered, or one record was appended, whose update has
-- so many octets at most.
abbrev pub IsNotedByOne : Before → State OpValue → ℕ → Type 0
IsNotedByOne b s room = (is_normal s.status ≡ false) ⊎ ((only_grew b s ≡ true) × IsOneAtMost room (drop b.length s.log))
