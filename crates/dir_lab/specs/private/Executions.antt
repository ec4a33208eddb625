-- How a lab keeps what its replicas have executed: a list each, which only grows while its replica is up. That they are
-- what the replicas have committed is proved, and not said here.
use Rattle.std.specs.Prelude.{◌≡◌, ◌≢◌, ℕ, List, [], ◌∷◌, ◌++◌, map, length, Option, Some, None, slice_get}
use Rattle.vr_state.specs.State.{State}
use Rattle.vr_state.specs.Words.{LogEntry}
use Rattle.vr_world.specs.World.{World, run, start}
use Rattle.state_machine.specs.Executing.{ExecutedValue, due_after}
use Rattle.state_machine.specs.dir_store.ldap_schema.Schema.{SchemaModel}
use Rattle.state_machine.specs.dir_store.ldap_dn.Names.{RdnModel}
use Rattle.state_machine.specs.dir_store.ldap_op.Values.{OpValue}
use Rattle.dir_lab.specs.Shown.{Shown, shown_view}
use Rattle.dir_lab.specs.declared.running.LabRun.{LabRun}
use Rattle.vr_world.specs.Cluster.{world as world_of}
use Rattle.dir_lab.specs.Schedule.{happening, shown_at}
use Rattle.dir_lab.specs.declared.events.LabEvent.{LabEvent}
use Rattle.dir_lab.specs.declared.events.LabEvent.TheVariants.{Happens, Search, State as Question}

-- what was executed, where something is kept
abbrev pub records_of : Option ExecutedValue → List (LogEntry OpValue)
records_of None = []
records_of (Some e) = e.records

-- what is kept at a place
abbrev pub records_in : Option (Option ExecutedValue) → List (LogEntry OpValue)
records_in None = []
records_in (Some o) = records_of o

-- what is kept, by index
abbrev pub records_by : List (Option ExecutedValue) → ℕ → List (LogEntry OpValue)
records_by kept i = records_in (slice_get kept i)

-- What was executed goes on with what a replica's log has next; where the replica is down, nothing is kept.
abbrev pub caught_up : List (LogEntry OpValue) → Option (State OpValue) → List (LogEntry OpValue)
caught_up done None = []
caught_up done (Some r) = done ++ due_after (length done) r.commit_number r.log

-- So at each replica of a world.
abbrev pub all_caught_up : (ℕ → List (LogEntry OpValue)) → World OpValue → ℕ → List (LogEntry OpValue)
all_caught_up records w i = caught_up (records i) (w.replicas i)

-- After an event; at a question nothing is executed.
abbrev pub moved_on : (ℕ → List (LogEntry OpValue)) → World OpValue → LabEvent → ℕ → List (LogEntry OpValue)
moved_on records w (Happens e) = all_caught_up records w
moved_on records w (Search i named q) = records
moved_on records w (Question i) = records

-- What a lab shows at all of these, from this world and these lists on.
abbrev pub played_from : SchemaModel → List RdnModel → ℕ → List LabEvent → World OpValue →
    (ℕ → List (LogEntry OpValue)) → List Shown
played_from s root n [] w records = []
played_from s root n (e ∷ es) w records =
    shown_at s root n (moved_on records (run n (happening e) w) e) w (run n (happening e) w) e
    ++ played_from s root n es (run n (happening e) w) (moved_on records (run n (happening e) w) e)

-- What a lab shows, from the first world on.
abbrev pub played : SchemaModel → List RdnModel → ℕ → List LabEvent → List Shown
played s root n es = played_from s root n es (start n) (λ i. [])

-- what is kept at a place is over this schema and this root
abbrev pub IsOver : SchemaModel → List RdnModel → Option ExecutedValue → Type 0
IsOver s root None = Unit {0}
IsOver s root (Some e) = (e.schema ≡ s) × (e.suffix ≡ root)

-- what there is at a place
abbrev pub IsOverAt : SchemaModel → List RdnModel → Option (Option ExecutedValue) → Type 0
IsOverAt s root None = Unit {0}
IsOverAt s root (Some o) = IsOver s root o

-- so is all that is kept
abbrev pub AreOver : SchemaModel → List RdnModel → List (Option ExecutedValue) → Type 0
AreOver s root kept = (i : ℕ) (o : Option ExecutedValue) → slice_get kept i ≡ Some o → IsOver s root o

-- what is kept at one place has caught up with the replica there, and at the others it is as it was
pub record IsAdvancedAt (w : World OpValue) (old : List (Option ExecutedValue)) (i : ℕ)
    (new : List (Option ExecutedValue)) : Type 0 where
  pub counted : length new ≡ length old
  pub here : records_by new i ≡ caught_up (records_by old i) (w.replicas i)
  pub there : (j : ℕ) → j ≢ i → records_by new j ≡ records_by old j

-- what a run of a lab has so far: as many replicas as there are to be, and something kept of each, over the schema and
-- the root
pub record IsRunning (s : SchemaModel) (root : List RdnModel) (n : ℕ) (run : LabRun) : Type 0 where
  pub counted : run.cluster.count ≡ n
  pub kept : length run.kept.items ≡ n
  pub over : AreOver s root run.kept.items

-- one event further: the world, what was executed, and what is shown
pub record IsNext (s : SchemaModel) (root : List RdnModel) (n : ℕ) (old new : LabRun) (e : LabEvent) : Type 0 where
  pub world : world_of new.cluster ≡ run n (happening e) (world_of old.cluster)
  pub records : records_by new.kept.items ≡ moved_on (records_by old.kept.items) (world_of new.cluster) e
  pub shown : map shown_view new.shown.items ≡ map shown_view old.shown.items ++ shown_at s root n
      (records_by new.kept.items) (world_of old.cluster) (world_of new.cluster) e
