-- What became of a client's request at a node, and where the node stands. The client table and the reply to each record
-- are defined below.
use Rattle.std.specs.Prelude.{ℕ, ◌-◌, ◌&&◌, not, cond, nat_lt, ◌==◌, Option, Some, None, slice_get}
use Rattle.state_machine.specs.Executing.{replies_at}
use Rattle.state_machine.specs.directory_api.Answers.{ReplyModel}
use Rattle.state_machine.specs.directory_api.View.{reply_view}
use Rattle.vr_state.specs.ClientTable.{latest}
use Rattle.vr_state.specs.Words.{Client}
use Rattle.vr_state.specs.declared.words.Latest.{Latest}
use Rattle.vr_state.specs.declared.words.Status.{Status}
use Rattle.vr_state.specs.declared.words.Status.TheVariants as status
use Rattle.vr_state.specs.State.{leads, primary}
use Rattle.dir_node.specs.declared.outcome.Outcome.{Outcome}
use Rattle.dir_node.specs.declared.outcome.Outcome.TheVariants.{Done, Pending, Stale, Lost}
use Rattle.dir_node.specs.declared.standing.Standing.{Standing}
use Rattle.dir_node.specs.declared.standing.Standing.TheVariants.{Primary, Backup, Changing, Recovering}
use Rattle.dir_node.specs.NodeState.{NodeValue}

-- what became of a client's request: done as the update of a number, with its reply; still to come; made old by a later
-- one; not known
pub data OutcomeValue : Type 0 where
  done : ℕ → ReplyModel → OutcomeValue
  pending : OutcomeValue
  stale : OutcomeValue
  lost : OutcomeValue

-- an outcome in memory stands for
abbrev pub outcome_view : Outcome → OutcomeValue
outcome_view (Done number reply) = done number (reply_view reply.now)
outcome_view Pending = pending
outcome_view Stale = stale
outcome_view Lost = lost

-- the record at this place is executed with this reply, or may still come where the node runs as the normal primary of
-- its view
abbrev pub outcome_at : {D J : Type 0} → NodeValue D J → ℕ → Option ReplyModel → OutcomeValue
outcome_at n p (Some reply) = done p reply
outcome_at n p None = cond (not n.is_halted && leads n.count n.index n.replica n.replica.view_number) pending lost

-- the client's latest record against the number that is asked for
abbrev pub outcome_by : {D J : Type 0} → NodeValue D J → ℕ → Option Latest → OutcomeValue
outcome_by n number None = lost
outcome_by n number (Some l) =
    cond (nat_lt number l.request_number) stale
    (cond (l.request_number == number) (outcome_at n l.op_number (slice_get (replies_at n.executed)
    (l.op_number - 1))) lost)

-- what became of a client's request of this number
abbrev pub outcome_of : {D J : Type 0} → NodeValue D J → Client → ℕ → OutcomeValue
outcome_of n client number = outcome_by n number (latest client n.replica.log)

-- where a replica of this index stands, by its view's primary and its status
abbrev pub standing_by : ℕ → ℕ → Status → Standing
standing_by index leader status.Normal = cond (leader == index) Primary (Backup leader)
standing_by index leader status.ViewChange = Changing
standing_by index leader status.Recovering = Recovering

-- where a node stands
abbrev pub standing_of : {D J : Type 0} → NodeValue D J → Standing
standing_of n = cond n.is_halted Recovering (standing_by n.index (primary n.count n.replica.view_number)
    n.replica.status)
