-- A replica that comes back from its journal.
use Rattle.std.specs.Prelude.{◌≡◌, ◌≤◌, ℕ, false, List, take, Some}
use Rattle.state_machine.specs.dir_store.ldap_op.Values.{OpValue}
use Rattle.log_journal.specs.Kept.{IsMemory, IsMemoryOfTaken}
use Rattle.log_journal.specs.Taken.{AreSome}
use Rattle.log_journal.specs.Told.{Told}
use Rattle.log_journal.specs.journal.Frames.{recorded}
use Rattle.log_journal.specs.journal.declared.journal.Journal.{Journal}
use Rattle.view_store.specs.declared.slot.Pair.{Pair}
use Rattle.view_store.specs.Slots.{Finding}
use Rattle.vr_state.specs.Journaled.{after_events}
use Rattle.vr_state.specs.Outcome.{idle}
use Rattle.vr_state.specs.State.{State, is_recovering, resuming}
use Rattle.vr_state.specs.ViewChange.{own_change}
use Rattle.vr_state.specs.declared.event.Event.{Event}
use Rattle.vr_state.specs.declared.message.Outputs.{Outputs}
use Rattle.dir_node.specs.NodeState.{KeepsLog, NodeValue}
use Rattle.dir_node.specs.Restarting.{IsRestart, IsRestarted, Restart}
use Rattle.dir_node.specs.declared.config.NodeConfig.{NodeConfig}
use Rattle.dir_node.specs.declared.owner.Owner.{Owner}

-- A start goes on as this replica: in its view, with its last normal view and its log, and some of what it had
-- committed; and it sends nothing.
pub record GoesOnAs (count : ℕ) (r : State OpValue) (s : Restart) : Type 0 where
  pub k : ℕ
  pub low : k ≤ r.commit_number
  pub outcome : s.outcome ≡ idle (resuming count r.view_number k (own_change r))

-- A start goes on as the replica was after some first of the events that it took of these.
pub record GoesOnAsSome (n i : ℕ) (r : State OpValue) (es : List (Event OpValue)) (count : ℕ) (s : Restart) :
    Type 0 where
  pub taken : List (Event OpValue × ℕ)
  pub some : AreSome taken es
  pub many : ℕ
  pub back : GoesOnAs count (after_events n i r (take many taken)) s

-- A start over strings that tell a replica goes on as that replica, or recovers.
abbrev pub RestartIsOfTold : Type 0
RestartIsOfTold = (o : Owner) (pair : Pair) (t : Told) (r : State OpValue) (strings : List (List ℕ)) (s : Restart) →
    IsMemory t r strings → IsRestart o pair strings s → is_recovering s.outcome.state.status ≡ false →
    GoesOnAs o.count r s

-- A start over strings that a crash during a batch left goes on as the replica after some first of its events, or
-- recovers.
abbrev pub RestartIsOfTaken : Type 0
RestartIsOfTaken = (o : Owner) (pair : Pair) (t : Told) (n i : ℕ) (r : State OpValue) (es : List (Event OpValue))
    (strings : List (List ℕ)) (s : Restart) →
    IsMemoryOfTaken t n i r es strings → IsRestart o pair strings s → is_recovering s.outcome.state.status ≡ false →
    GoesOnAsSome n i r es o.count s

-- A replica is back as it was: in its view, with its last normal view and its log, and some of what it had committed.
pub record IsBackAs (count : ℕ) (r s : State OpValue) : Type 0 where
  pub k : ℕ
  pub low : k ≤ r.commit_number
  pub state : s ≡ resuming count r.view_number k (own_change r)

-- A node keeps its journal, a crash leaves an image of it, and a start over that makes a node that doesn't recover: its
-- replica is back as it was.
abbrev pub JournalsReturn : (D : Type 0) {J : Type 0} → (J → List ℕ → Type 0) → Type 0
JournalsReturn D {J} may_leave = (config : NodeConfig) (finding : Finding) (n m : NodeValue D J) (j : Journal J)
    (image : List ℕ) (out : Outputs OpValue) →
    n.journal ≡ Some j → KeepsLog may_leave n → may_leave j.device image → IsRestarted config finding (recorded image)
    m out →
    is_recovering m.replica.status ≡ false → IsBackAs config.count n.replica m.replica
