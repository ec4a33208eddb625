-- A later start of a node that keeps a journal. Steps and recovery are defined in vr_state, notes in log_journal.
use Rattle.std.specs.Prelude.{◌≡◌, ◌≢◌, ◌⊎◌, ℕ, ◌+◌, ◌<◌, ◌≤◌, ◌^◌, ◌&&◌, nat_lt, Bool, true, false, List, [], ◌∷◌, ◌++◌, length}
use Rattle.state_machine.specs.dir_store.ldap_op.Values.{OpValue}
use Rattle.log_journal.specs.Notes.{Note, Begin, Start}
use Rattle.log_journal.specs.Told.{Told, Tells, nothing_told}
use Rattle.view_store.specs.declared.slot.Pair.{Pair}
use Rattle.view_store.specs.Slots.{Finding, nothing, own, found, taken_from, sequence_of}
use Rattle.view_store.specs.Store.{IsFormerOrNew}
use Rattle.log_journal.specs.vr_recover.Rules.{recovers}
use Rattle.vr_state.specs.Journaled.{Kept}
use Rattle.vr_state.specs.Outcome.{Outcome, idle}
use Rattle.vr_state.specs.State.{resuming}
use Rattle.vr_state.specs.declared.message.Change.{Change}
use Rattle.vr_state.specs.declared.message.Outputs.{Outputs}
use Rattle.log_journal.specs.journal.Frames.{recorded}
use Rattle.dir_node.specs.Logged.{IsBegun, ReadsAsBefore}
use Rattle.dir_node.specs.NodeState.{IsMade, NodeValue, given, pair_of}
use Rattle.dir_node.specs.declared.config.NodeConfig.{NodeConfig}
use Rattle.dir_node.specs.declared.owner.Owner.{Owner}

-- what a start stores, what it notes in the journal, the replica with what it sends, and how much is to be committed
-- before sessions are served
pub record Restart : Type 0 where
  pub pair : Pair
  pub notes : List Note
  pub outcome : Outcome OpValue
  pub catch_up : ℕ

-- what is noted first in an empty journal: whose it is
abbrev pub begins : Bool → Owner → List Note
begins true o = Begin o.cluster o.index o.count ∷ []
begins false o = []

-- The replica recovers in its stored view. The restarts go up by two, so that no other journal, one behind, is ever
-- taken for this one.
abbrev pub recovered : Bool → Owner → Pair → Restart
recovered is_new o pair = record {
  pair = record { view = pair.view; restarts = pair.restarts + 2; journaled = true };
  notes = begins is_new o ++ Start (pair.restarts + 2) pair.view false ∷ [];
  outcome = recovers o.count o.index pair.view (pair.restarts + 2);
  catch_up = 0;
}

-- what a first start notes: whose the journal is, and a replica that is whole, in view 0
abbrev pub first_notes : Owner → List Note
first_notes o = begins true o ++ Start 1 0 true ∷ []

-- what is kept of a replica, as a change
abbrev pub change_of : Kept OpValue → Change OpValue
change_of h = record { log = h.log; last_normal_view = h.last; commit_number = h.k }

-- The replica goes on as its journal tells it, and sends nothing.
abbrev pub resumed : Owner → Pair → Told → Restart
resumed o pair t = record {
  pair = record { view = t.kept.view; restarts = pair.restarts + 1; journaled = true };
  notes = Start (pair.restarts + 1) t.kept.view true ∷ [];
  outcome = idle (resuming o.count t.kept.view t.kept.k (change_of t.kept));
  catch_up = length t.kept.log;
}

-- A journal may be gone on from: it has noted a start, and the replica has adopted a log since it last began to
-- recover.
abbrev pub may_resume : Told → Bool
may_resume t = t.kept.whole && nat_lt 0 t.restarts

-- What is told is of this replica of this cluster.
pub record IsOf (o : Owner) (t : Told) : Type 0 where
  pub cluster : t.cluster ≡ o.cluster
  pub index : t.index ≡ o.index
  pub count : t.count ≡ o.count

-- A pair and a journal go together: the pair says so, the last start of both is the same or the journal is one ahead,
-- and its view isn't below the pair's, nor past the greatest number.
pub record GoTogether (pair : Pair) (t : Told) : Type 0 where
  pub journaled : pair.journaled ≡ true
  pub restarts : (t.restarts ≡ pair.restarts) ⊎ (t.restarts ≡ pair.restarts + 1)
  pub view : pair.view ≤ t.kept.view
  pub fits : t.kept.view < 2 ^ 63

-- An empty journal is begun.
pub record BeginsLog (o : Owner) (pair : Pair) (strings : List (List ℕ)) (s : Restart) : Type 0 where
  pub empty : strings ≡ []
  pub is : s ≡ recovered true o pair

-- A journal that can't be gone on from is begun again.
pub record BeginsAgain (o : Owner) (pair : Pair) (strings : List (List ℕ)) (s : Restart) : Type 0 where
  pub told : Told
  pub tells : Tells nothing_told strings told
  pub of : IsOf o told
  pub lost : may_resume told ≡ false
  pub is : s ≡ recovered false o pair

-- The replica goes on from its journal.
pub record Resumes (o : Owner) (pair : Pair) (strings : List (List ℕ)) (s : Restart) : Type 0 where
  pub told : Told
  pub tells : Tells nothing_told strings told
  pub of : IsOf o told
  pub whole : may_resume told ≡ true
  pub together : GoTogether pair told
  pub is : s ≡ resumed o pair told

-- A later start over this pair and a journal of these strings.
abbrev pub IsRestart : Owner → Pair → List (List ℕ) → Restart → Type 0
IsRestart o pair strings s = BeginsLog o pair strings s ⊎ BeginsAgain o pair strings s ⊎ Resumes o pair strings s

-- who owns the journal of a replica of this configuration
abbrev pub owner_of : NodeConfig → Owner
owner_of config = record { cluster = config.cluster; index = config.index; count = config.count }

-- A node as a later start makes it, and what it sends.
pub record IsRestarted {D J : Type 0} (config : NodeConfig) (finding : Finding) (strings : List (List ℕ))
    (n : NodeValue D J) (out : Outputs OpValue) : Type 0 where
  pub former : Pair
  pub found : finding ≡ own former
  pub start : Restart
  pub is : IsRestart (owner_of config) former strings start
  pub made : IsMade config start.outcome.state start.pair.restarts n
  pub pair : pair_of n ≡ start.pair
  pub sends : given n.replica out ≡ start.outcome
  pub catch_up : n.catch_up ≡ start.catch_up

-- A journal is another replica's, or it could be gone on from, but doesn't go with the pair.
abbrev pub IsStale : Owner → Finding → List (List ℕ) → Type 0
IsStale o finding strings = (t : Told) × Tells nothing_told strings t × ((t.index ≢ o.index) ⊎ (t.count ≢ o.count)
    ⊎ ((may_resume t ≡ true) × ((pair : Pair) → finding ≡ own pair → GoTogether pair t → ⊥)))

-- A journal is of another cluster.
abbrev pub IsForeign : Owner → List (List ℕ) → Type 0
IsForeign o strings = (t : Told) × Tells nothing_told strings t × (t.cluster ≢ o.cluster)

-- A later start may leave, of the pair's device, what the device might have left before, or the former pair, or the one
-- that it stores.
abbrev pub RestartLeaves : {D : Type 0} → (D → List ℕ) → (D → List ℕ → Type 0) → Owner → D → List (List ℕ) → List ℕ →
    Type 0
RestartLeaves seen may_leave o device strings image =
    may_leave device image
    ⊎ ((pair : Pair) × (start : Restart) × IsRestart o pair strings start × (found o.cluster (seen device) ≡ own pair)
    × IsFormerOrNew o.cluster (found o.cluster (seen device)) start.pair image)

-- And of the journal's, an image that is read as before, or as that and then some first of what it notes.
abbrev pub RestartNotes : {J : Type 0} → (J → List ℕ) → (J → List ℕ → Type 0) → Owner → Finding → J → List ℕ → Type 0
RestartNotes seen may_leave o finding j image =
    ReadsAsBefore seen may_leave j image
    ⊎ ((pair : Pair) × (start : Restart) × (finding ≡ own pair) × IsRestart o pair (recorded (seen j)) start
    × IsBegun (recorded (seen j)) start.notes image)

-- A pair has no next start over a journal: none of the cluster's was found, a number would be past the greatest, or the
-- sequence of pairs is at its end.
abbrev pub CannotRestart : ℕ → List ℕ → Type 0
CannotRestart cluster image = (found cluster image ≡ nothing) ⊎ (2 ^ 63 ≤ sequence_of (taken_from image) + 1)
    ⊎ ((pair : Pair) × (found cluster image ≡ own pair) × (2 ^ 63 ≤ pair.restarts + 2))
