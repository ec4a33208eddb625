-- What waits to be sent: items, each with its weight, and limits.
use Rattle.std.specs.Prelude.{◌≡◌, ◌⊎◌, ℕ, ◌+◌, ◌<◌, ◌≤◌, List, [], ◌∷◌, ◌++◌, length, drop}
use Rattle.peer_link.specs.declared.weighted.Weighted.{Weighted}

-- items that wait, the oldest first, and how many may, of which weight in all
pub record QueueValue (T : Type 0) : Type 0 where
  pub waiting : List (Weighted T)
  pub most_items : ℕ
  pub most_weight : ℕ

-- how heavy items are together
abbrev pub weight_of : {T : Type 0} → List (Weighted T) → ℕ
weight_of [] = 0
weight_of (w ∷ ws) = w.weight + weight_of ws

-- these items, and one more of this weight, are within the limits
pub record HaveRoom {T : Type 0} (most_items most_weight : ℕ) (waiting : List (Weighted T)) (weight : ℕ) : Type 0 where
  pub item : length waiting + 1 ≤ most_items
  pub weight_is : weight_of waiting + weight ≤ most_weight

-- Of the items that wait only the oldest are forgotten, and none without need: with it there was no room for one of
-- this weight.
pub record HasForgotten {T : Type 0} (old : QueueValue T) (weight : ℕ) (new : QueueValue T) : Type 0 where
  pub count : ℕ
  pub rest : new.waiting ≡ drop count old.waiting
  pub needed : (k : ℕ) → k < count → HaveRoom old.most_items old.most_weight (drop k old.waiting) weight → ⊥
  pub most_items : new.most_items ≡ old.most_items
  pub most_weight : new.most_weight ≡ old.most_weight

-- there is room for one of this weight, or nothing waits
abbrev pub IsReadyFor : {T : Type 0} → QueueValue T → ℕ → Type 0
IsReadyFor q weight = (q.waiting ≡ []) ⊎ HaveRoom q.most_items q.most_weight q.waiting weight

-- An item has come: it is the last, behind those that were not forgotten for it.
pub record HasCome {T : Type 0} (old : QueueValue T) (come : Weighted T) (new : QueueValue T) : Type 0 where
  pub ready : QueueValue T
  pub forgotten : HasForgotten old come.weight ready
  pub room : IsReadyFor ready come.weight
  pub last : new ≡ record ready { waiting = ready.waiting ++ come ∷ [] }
