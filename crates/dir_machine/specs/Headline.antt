-- What is promised of every schedule of a machine.
use Rattle.std.specs.Prelude.{◌≡◌, ◌⊎◌, ◌<◌, ◌≤◌, ◌/◌, ℕ, Bool, true, List, [], ◌∷◌, ◌++◌, length, take, Some}
use Rattle.state_machine.specs.dir_store.ldap_dn.Names.{RdnModel}
use Rattle.state_machine.specs.dir_store.ldap_op.Values.{OpValue}
use Rattle.state_machine.specs.dir_store.ldap_schema.Schema.{SchemaModel}
use Rattle.vr_state.specs.Lists.{In, IsPrefix, Rising}
use Rattle.vr_state.specs.Outcome.{count, indices}
use Rattle.vr_state.specs.State.{State}
use Rattle.vr_state.specs.Words.{LogEntry}
use Rattle.vr_world.specs.Committed.{IsChosen, committed}
use Rattle.vr_world.specs.Law.{IsHeld, TakesPart}
use Rattle.vr_world.specs.World.{after, start}
use Rattle.vr_world.specs.declared.events.WorldEvent.{WorldEvent}
use Rattle.dir_machine.specs.Happening.{HappenInTurn}
use Rattle.dir_machine.specs.Shown.{stage, up}
use Rattle.dir_machine.specs.declared.events.Given.{Given}
use Rattle.dir_machine.specs.declared.events.Given.TheVariants as given
use Rattle.dir_machine.specs.declared.events.MachineEvent.{MachineEvent}
use Rattle.dir_machine.specs.declared.events.MachineEvent.TheVariants.{Give, GiveAll}
use Rattle.dir_machine.specs.declared.replies.MachineReply.{MachineReply}

-- All of these lists, one after another.
abbrev pub joined : {A : Type 0} → List (List A) → List A
joined [] = []
joined (xs ∷ rest) = xs ++ joined rest

-- What is committed in the world after these events.
abbrev pub committed_after : ℕ → List (WorldEvent OpValue) → List (LogEntry OpValue)
committed_after n es = committed n (after n es).messages

-- What is committed after these events is one list: it begins with each list that is chosen in any view, of which one
-- begins with the other; it only grows; it begins with what each replica has committed, which its log has; each
-- client's request numbers rise along it, so that each request is there once at most; and of any majority of replicas
-- that are up and don't recover, one has all of it, whatever ended before.
pub record CommittedIsOneList (n : ℕ) (es : List (WorldEvent OpValue)) : Type 0 where
  pub agree : (a b : List (LogEntry OpValue)) → IsChosen n (after n es).messages a → IsChosen n (after n es).messages
      b → IsPrefix a b ⊎ IsPrefix b a
  pub longest : (a : List (LogEntry OpValue)) → IsChosen n (after n es).messages a → IsPrefix a (committed_after n es)
  pub chosen : (committed_after n es ≡ []) ⊎ IsChosen n (after n es).messages (committed_after n es)
  pub grows : (k : ℕ) → IsPrefix (committed_after n (take k es)) (committed_after n es)
  pub replicas : (i : ℕ) (r : State OpValue) → (after n es).replicas i ≡ Some r →
      IsPrefix (take r.commit_number r.log) (committed_after n es)
  pub held : (i : ℕ) (r : State OpValue) → (after n es).replicas i ≡ Some r → r.commit_number ≤ length r.log
  pub rising : Rising (committed_after n es)
  pub majorities : (quorum : ℕ → Bool) → n / 2 < count quorum (indices n) →
      ((j : ℕ) → quorum j ≡ true → TakesPart (after n es) j) → IsHeld (after n es) (committed_after n es)

-- Of any majority of processes that are up one has all that is committed in its log, whatever ended before, all at once
-- too.
abbrev pub MajoritiesKeep : ℕ → List MachineReply → List (WorldEvent OpValue) → Type 0
MajoritiesKeep n shown es = (quorum : ℕ → Bool) → n / 2 < count quorum (indices n) →
    ((j : ℕ) → quorum j ≡ true → (j < n) × (stage shown j ≡ up)) → IsHeld (after n es) (committed_after n es)

-- What a node is given at an event of a schedule.
abbrev pub given_at : MachineEvent → List Given
given_at (Give i g) = g ∷ []
given_at (GiveAll i gs) = gs.items
given_at _ = []

-- The schedule gives some node this request: its client, its number and its update.
pub record WasGiven (schedule : List MachineEvent) (e : LogEntry OpValue) : Type 0 where
  pub event : MachineEvent
  pub scheduled : In event schedule
  pub request : In (given.Request e) (given_at event)

-- There is one list of what happened in the world: the schedule gives it in turn, as what is shown says, and what is
-- committed after it is one list, which journals keep. Each committed record is a request that the schedule gave.
pub record IsWhole (s : SchemaModel) (root : List RdnModel) (cluster n : ℕ) (journaled : Bool)
    (schedule : List MachineEvent)
    (shown : List MachineReply) : Type 0 where
  pub happened : List (List (WorldEvent OpValue))
  pub in_turn : HappenInTurn s root cluster n journaled [] schedule shown happened (start n)
  pub committed : CommittedIsOneList n (joined happened)
  pub asked : (e : LogEntry OpValue) → In e (committed_after n (joined happened)) → WasGiven schedule e
  pub kept : journaled ≡ true → MajoritiesKeep n shown (joined happened)
