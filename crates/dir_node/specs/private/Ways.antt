-- How a later start is made over a journal: the way it takes, the replica with what it sends, and what it notes.
use Rattle.std.specs.Prelude.{◌≡◌, ◌≢◌, ◌⊎◌, ℕ, true, false, List, []}
use Rattle.log_journal.specs.Notes.{Puts}
use Rattle.log_journal.specs.Told.{Told, Tells, nothing_told}
use Rattle.log_journal.specs.Views.{told_view}
use Rattle.view_store.specs.declared.slot.Pair.{Pair}
use Rattle.view_store.specs.Slots.{Finding, own}
use Rattle.vr_state.specs.Views.{outcome}
use Rattle.dir_node.specs.Restarting.{GoTogether, IsOf, IsRestart, Restart, may_resume, recovered, resumed}
use Rattle.dir_node.specs.declared.owner.Owner.{Owner}
use Rattle.dir_node.specs.declared.way.Way.{Way}
use Rattle.dir_node.specs.declared.way.Way.TheVariants.{Begin, BeginAgain, Resume}
use Rattle.dir_node.specs.declared.made.Made.{Made}

-- the way over what a journal tells
abbrev pub IsWayOf : Owner → Pair → Told → Way → Type 0
IsWayOf o pair t Begin = ⊥
IsWayOf o pair t BeginAgain = IsOf o t × (may_resume t ≡ false)
IsWayOf o pair t (Resume told) = (told_view told ≡ t) × IsOf o t × (may_resume t ≡ true) × GoTogether pair t

-- What a journal tells is another replica's, or could be gone on from, but doesn't go with the pair.
abbrev pub IsStaleOf : Owner → Pair → Told → Type 0
IsStaleOf o pair t = (t.index ≢ o.index) ⊎ (t.count ≢ o.count) ⊎ ((may_resume t ≡ true) × (GoTogether pair t → ⊥))

-- the way over a journal of these strings
abbrev pub IsWay : Owner → Pair → List (List ℕ) → Way → Type 0
IsWay o pair strings Begin = strings ≡ []
IsWay o pair strings BeginAgain = (t : Told) × Tells nothing_told strings t × IsWayOf o pair t BeginAgain
IsWay o pair strings (Resume told) = (t : Told) × Tells nothing_told strings t × IsWayOf o pair t (Resume told)

-- the start that is made on a way
abbrev pub start_by : Owner → Pair → Way → Restart
start_by o pair Begin = recovered true o pair
start_by o pair BeginAgain = recovered false o pair
start_by o pair (Resume told) = resumed o pair (told_view told)

-- What lies in memory is of this start.
pub record IsMadeBy (o : Owner) (start : Restart) (m : Made) : Type 0 where
  pub pair : m.pair ≡ start.pair
  pub outcome_is : outcome m.replica m.outputs ≡ start.outcome
  pub index : m.replica.index ≡ o.index
  pub count : m.replica.count ≡ o.count
  pub notes : Puts start.notes [] m.batch
  pub catch_up : m.catch_up ≡ start.catch_up

-- What lies in memory is of a later start over this pair and a journal of these strings.
pub record IsStartedOver (o : Owner) (finding : Finding) (strings : List (List ℕ)) (m : Made) : Type 0 where
  pub former : Pair
  pub found : finding ≡ own former
  pub start : Restart
  pub is : IsRestart o former strings start
  pub made : IsMadeBy o start m
