-- The places of a table. Where each stands before and after comes in; what has become of it comes out.
use Rattle.std.specs.Prelude.{◌≡◌, ℕ, ◌<◌, ◌≤◌, List, slice_get, slice_set, Option, Some}
use Rattle.session_turns.specs.declared.spot.Queue.{Queue}
use Rattle.session_turns.specs.declared.spot.Spot.{Spot}
use Rattle.session_turns.specs.declared.spot.Spot.TheVariants.{Away, In}

-- this place is away
abbrev pub IsAway : List Spot → ℕ → Type 0
IsAway spots p = slice_get spots p ≡ Some Away

-- this place stands in this queue, since this turn
abbrev pub IsIn : List Spot → ℕ → Queue → ℕ → Type 0
IsIn spots p queue turn = slice_get spots p ≡ Some (In queue turn)

-- this place stands in this queue, and none has stood there longer
pub record IsLongest (spots : List Spot) (queue : Queue) (p : ℕ) : Type 0 where
  pub turn : ℕ
  pub is_in : IsIn spots p queue turn
  pub longest : (q t : ℕ) → IsIn spots q queue t → turn ≤ t

-- no place stands in this queue
abbrev pub NoneIn : List Spot → Queue → Type 0
NoneIn spots queue = (q t : ℕ) → IsIn spots q queue t → ⊥

-- a place that was away stands in a queue, behind all that stand in any
pub record HasPut (old : List Spot) (p : ℕ) (queue : Queue) (new : List Spot) : Type 0 where
  pub turn : ℕ
  pub away : IsAway old p
  pub put : new ≡ slice_set old p (In queue turn)
  pub last : (q : ℕ) (any : Queue) (t : ℕ) → IsIn old q any t → t < turn

-- a place that stood in a queue is away
pub record HasTaken (old : List Spot) (p : ℕ) (queue : Queue) (new : List Spot) : Type 0 where
  pub turn : ℕ
  pub was_in : IsIn old p queue turn
  pub taken : new ≡ slice_set old p Away
