-- A node as its callers see it, and what an event makes of it: what contracts that aren't public say of it.
-- What public contracts say is in specs/NodeState.
use Rattle.std.specs.Prelude.{◌≡◌, ℕ, List, Option, is_some}
use Rattle.state_machine.specs.dir_store.ldap_op.Values.{OpValue}
use Rattle.log_journal.specs.journal.declared.journal.Journal.{Journal}
use Rattle.view_store.specs.declared.slot.Pair.{Pair}
use Rattle.view_store.specs.declared.state.Status.TheVariants as status
use Rattle.view_store.specs.Device.{Only}
use Rattle.view_store.specs.Slots.{own, found}
use Rattle.view_store.specs.Stored.{Stored}
use Rattle.vr_state.specs.State.{State}
use Rattle.dir_node.specs.Logged.{head_of}
use Rattle.dir_node.specs.private.Logged.{IsHeldIn, IsToldIn}

-- A view store is ready, its device holds this pair, and all of that is settled.
pub record Holds {D : Type 0} (seen : D → List ℕ) (may_leave : D → List ℕ → Type 0) (views : Stored D) (pair : Pair) :
    Type 0 where
  pub ready : views.status ≡ status.Ready
  pub holds : found views.cluster (seen views.device) ≡ own pair
  pub settled : Only (seen views.device) (may_leave views.device)

-- A node that runs: the device holds its pair, and its journal, where it keeps one, is settled and tells its replica.
pub record IsRunning {D J : Type 0} (seen : D → List ℕ) (may_leave : D → List ℕ → Type 0) (log_seen : J → List ℕ)
    (log_may_leave : J → List ℕ → Type 0)
    (views : Stored D) (journal : Option (Journal J)) (index count : ℕ) (r : State OpValue) (restarts : ℕ) :
    Type 0 where
  pub stored : Holds seen may_leave views (record {
    view = r.view_number;
    restarts = restarts;
    journaled =
        is_some journal;
  })
  pub held : IsHeldIn log_seen log_may_leave journal
  pub told : IsToldIn log_seen journal (head_of views.cluster index count restarts) r
