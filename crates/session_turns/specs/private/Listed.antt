-- The queues of a table beside its places: each tells the places that stand in it. Places and queues come in; whether
-- they agree comes out.
use Rattle.std.specs.Prelude.{◌≡◌, ℕ, ◌<◌, ◌≤◌, List, Bool, true, false, Option, Some}
use Rattle.std.specs.BTreeMap.{get}
use Rattle.std.specs.Ordering.{nat_cmp}
use Rattle.session_turns.specs.Places.{IsIn}
use Rattle.session_turns.specs.declared.queues.Queues.{Queues}
use Rattle.session_turns.specs.declared.spot.Queue.{Queue}
use Rattle.session_turns.specs.declared.spot.Queue.TheVariants.{Silent, Inside, Unsent, Leaving, Delayed}
use Rattle.session_turns.specs.declared.spot.Spot.{Spot}

-- the place that has stood in this queue since this turn
abbrev pub place_at : Queues → Queue → ℕ → Option ℕ
place_at queues Silent turn = get nat_cmp queues.silent turn
place_at queues Inside turn = get nat_cmp queues.inside turn
place_at queues Unsent turn = get nat_cmp queues.unsent turn
place_at queues Leaving turn = get nat_cmp queues.leaving turn
place_at queues Delayed turn = get nat_cmp queues.delayed turn

-- whether two queues are one
abbrev pub is_queue : Queue → Queue → Bool
is_queue Silent Silent = true
is_queue Inside Inside = true
is_queue Unsent Unsent = true
is_queue Leaving Leaving = true
is_queue Delayed Delayed = true
is_queue a b = false

-- this place stands at a turn, and none at an earlier one
pub record IsFirstAt (at : ℕ → Option ℕ) (p : ℕ) : Type 0 where
  pub turn : ℕ
  pub is_at : at turn ≡ Some p
  pub first : (t q : ℕ) → at t ≡ Some q → turn ≤ t

-- a queue tells the places that stand in it, and no others
pub record Tells (spots : List Spot) (queue : Queue) (at : ℕ → Option ℕ) (next : ℕ) : Type 0 where
  pub told : (p t : ℕ) → IsIn spots p queue t → at t ≡ Some p
  pub stands : (t p : ℕ) → at t ≡ Some p → IsIn spots p queue t
  pub past : (p t : ℕ) → IsIn spots p queue t → t < next

-- so does each queue
abbrev pub AllTell : List Spot → (Queue → ℕ → Option ℕ) → ℕ → Type 0
AllTell spots at next = (queue : Queue) → Tells spots queue (at queue) next
