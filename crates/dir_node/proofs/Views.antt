-- What is stored is the replica's view.
use Rattle.std.proofs.Common.{◌≡◌, ◌+◌, ◌^◌, ◌≤◌, ◌≢◌, ◌⊎◌, ℕ, false, Result, Ok, Err, IsErrOf, List, refl, sym, ap, ◌∙◌, subst, arith, inl, inr}
use Rattle.view_store.specs.Device.{Only, LeavesOnly}
use Rattle.view_store.specs.Slots.{Finding, own, found, taken_from, sequence_of, IsWellPlaced}
use Rattle.view_store.specs.Store.{IsFormerOrNew}
use Rattle.view_store.specs.Stored.{Stored}
use Rattle.view_store.specs.declared.slot.Pair.{Pair}
use Rattle.view_store.specs.declared.state.Status.{Status}
use Rattle.view_store.specs.declared.state.Status.TheVariants as status
use Rattle.view_store.proofs.Moments.{joined, weaker_fact}
use Rattle.dir_node.specs.NodeState.{CannotStart, CannotStore, StartLeaves, started_pair}
use Rattle.dir_node.specs.private.NodeState.{Holds}
use Rattle.dir_node.specs.declared.error.NodeError.{NodeError}
use Rattle.dir_node.specs.declared.error.NodeError.TheVariants.{Store}
use Rattle.view_store.specs.declared.fault.ViewStoreError.{ViewStoreError}
use Rattle.view_store.specs.declared.fault.ViewStoreError.TheVariants.{DeviceFailed}
use Rattle.dir_node.proofs.Bounds.{found_storable}

-- A device that holds a pair leaves it at every crash.
pub left_pair : {D : Type 0} (seen : D → List ℕ) (may_leave : D → List ℕ → Type 0) (views : Stored D) (pair : Pair) →
    Holds seen may_leave views pair
    → (image : List ℕ) → may_leave views.device image → found views.cluster image ≡ own pair
left_pair seen may_leave views pair h image left = ap (found views.cluster) (h.settled image left) ∙ h.holds

-- Where no device is called, a crash leaves what it would have left.
pub untouched : {D : Type 0} (seen : D → List ℕ) (may_leave : D → List ℕ → Type 0) (moment : D → ℕ) (left_since : D →
    ℕ → List ℕ → Type 0) (d : D) (cluster : ℕ) (former new : Pair)
    → IsWellPlaced (seen d) → found cluster (seen d) ≡ own former → Only (seen d) (may_leave d) →
    ((c : List ℕ) → left_since d (moment d) c → may_leave d c)
    → LeavesOnly moment left_since d d (IsFormerOrNew cluster (own former) new)
untouched seen may_leave moment left_since d cluster former new placed pair only now = record {
  later = omega arith;
  each = λ c left. subst (IsFormerOrNew cluster (own former) new) (sym (only c (now c left)))
      (record { pair = inl pair; placed = placed });
  before = λ t c le left. inl left;
}

abbrev IsNew : Status → Type 0
IsNew status.New = Unit {0}
IsNew status.Ready = ⊥
IsNew status.Failed = ⊥

new_not_ready : status.New ≢ status.Ready
new_not_ready e = subst IsNew e tt

-- the restarts of a pair's next start are past the greatest number
pub restarts_past : (cluster : ℕ) (image : List ℕ) (pair : Pair) → found cluster image ≡ own pair →
    2 ^ 63 ≤ pair.restarts + 1 → 2 ^ 63 ≤ (started_pair (found cluster image)).restarts
restarts_past cluster image pair is h = subst (λ (f : Finding). 2 ^ 63 ≤ (started_pair f).restarts) (sym is) h

-- why a view is not stored beside restarts that are stored already
pub why_not_stored : {D : Type 0} (seen : D → List ℕ) (may_leave : D → List ℕ → Type 0) (views : Stored D)
    (former : ℕ) (pair : Pair) → Holds seen may_leave views (record pair { view = former })
    → (views.status ≡ status.New) ⊎ ((views.status ≡ status.Ready) × ((2 ^ 63 ≤ pair.view) ⊎ (2 ^ 63 ≤ pair.restarts)
    ⊎ (2 ^ 63 ≤ sequence_of (taken_from (seen views.device)) + 1)))
    → CannotStore pair.view (seen views.device)
why_not_stored seen may_leave views former pair h (inl is_new) = absurd (new_not_ready (sym is_new ∙ h.ready))
why_not_stored seen may_leave views former pair h (inr why) = elim why.1 [
  | inl v ↦ inl v
  | inr other ↦ elim other [
    | inl r ↦ absurd (omega (
      arith,
      r,
      (found_storable views.cluster (seen views.device)
          (record pair { view = former }) h.holds).restarts,
    ))
    | inr s ↦ inr s
  ]
]

-- a pair with its own view
pub same_view : (former : ℕ) (pair : Pair) → pair.view ≡ former → record pair { view = former } ≡ pair
same_view former pair e = λ i. record pair { view = (sym e) i }

-- why a pair that was found has no next start
pub why_no_start : {D : Type 0} (seen : D → List ℕ) (mid : Stored D) (cluster : ℕ) (image : List ℕ) (pair : Pair) →
    found cluster image ≡ own pair → seen mid.device ≡ image → mid.status ≡ status.Ready
    → (mid.status ≡ status.New) ⊎ ((mid.status ≡ status.Ready) × ((2 ^ 63 ≤ pair.view) ⊎ (2 ^ 63 ≤ pair.restarts + 1)
    ⊎ (2 ^ 63 ≤ sequence_of (taken_from (seen mid.device)) + 1)))
    → CannotStart cluster image
why_no_start seen mid cluster image pair is same ready (inl is_new) = absurd (new_not_ready (sym is_new ∙ ready))
why_no_start seen mid cluster image pair is same ready (inr why) = elim why.1 [
  | inl v ↦ absurd (omega (arith, v, (found_storable cluster image pair is).view))
  | inr other ↦ elim other [
    | inl r ↦ inr (inl (restarts_past cluster image pair is r))
    | inr s ↦ inr (inr (subst (λ (l : List ℕ). 2 ^ 63 ≤ sequence_of (taken_from l) + 1) same s))
  ]
]

-- What a start may leave: what the device might have left before, or one of the two pairs.
pub started_left : {D : Type 0} (seen : D → List ℕ) (may_leave : D → List ℕ → Type 0) (moment : D → ℕ)
    (left_since : D → ℕ → List ℕ → Type 0) (old new : D) (mid : Stored D) (cluster : ℕ) (pair : Pair)
    → mid.cluster ≡ cluster → found cluster (seen old) ≡ own pair → seen mid.device ≡ seen old →
    LeavesOnly moment left_since old mid.device (may_leave old)
    → (IsWellPlaced (seen mid.device) → LeavesOnly moment left_since mid.device new
    (IsFormerOrNew mid.cluster (found mid.cluster (seen mid.device))
    (record { view = pair.view; restarts = pair.restarts + 1; journaled = false })))
    → IsWellPlaced (seen old) → LeavesOnly moment left_since old new (StartLeaves seen may_leave cluster old)
started_left {D} seen may_leave moment left_since old new mid cluster pair one is same loaded stored placed =
    let P : List ℕ → Type 0 = StartLeaves seen may_leave cluster old in
    let next : Pair = record { view = pair.view; restarts = pair.restarts + 1; journaled = false } in
    let Q : List ℕ → Type 0 = IsFormerOrNew cluster (found cluster (seen mid.device)) next in
    let run : LeavesOnly moment left_since mid.device new Q =
    subst (λ (k : ℕ). LeavesOnly moment left_since mid.device new (IsFormerOrNew k (found k (seen mid.device)) next))
    one (stored (subst IsWellPlaced (sym same) placed)) in
    joined moment left_since old mid.device new P Q (weaker_fact moment left_since old mid.device (may_leave old) P
    loaded (λ c h. inl h)) run
    (λ c q. inr (subst (λ (f : Finding). IsFormerOrNew cluster f (started_pair f) c) (sym is)
    (subst (λ (f : Finding). IsFormerOrNew cluster f next c) (ap (found cluster) same ∙ is) q)))

-- why a node's pair wasn't stored
abbrev cause_of : NodeError → ViewStoreError
cause_of (Store e) = e
cause_of _ = DeviceFailed

abbrev cause_in : {T U : Type 0} → Result T NodeError → Result U ViewStoreError
cause_in (Ok x) = Err DeviceFailed
cause_in (Err e) = Err (cause_of e)

-- the same error of the pair's store
pub stored_error : {T U : Type 0} (e f : ViewStoreError) → IsErrOf {T = T} {E = NodeError} (Err (Store e)) (Store f) →
    IsErrOf {T = U} {E = ViewStoreError} (Err e) f
stored_error e f is = ap cause_in is

-- Where no device is called, a crash leaves what was found.
pub unwritten : {D : Type 0} (seen : D → List ℕ) (may_leave : D → List ℕ → Type 0) (moment : D → ℕ) (left_since : D →
    ℕ → List ℕ → Type 0) (d : D) (cluster : ℕ) (new : Pair)
    → IsWellPlaced (seen d) → Only (seen d) (may_leave d) → ((c : List ℕ) → left_since d (moment d) c → may_leave d c)
    → LeavesOnly moment left_since d d (IsFormerOrNew cluster (found cluster (seen d)) new)
unwritten seen may_leave moment left_since d cluster new placed only now = record {
  later = omega arith;
  each = λ c left. subst (IsFormerOrNew cluster (found cluster (seen d)) new) (sym (only c (now c left)))
      (record { pair = inl refl; placed = placed });
  before = λ t c le left. inl left;
}

-- why a store that is ready didn't store
pub why_unstored : {D : Type 0} (views : Stored D) (A : Type 0) → views.status ≡ status.Ready →
    (views.status ≡ status.New) ⊎ ((views.status ≡ status.Ready) × A) → A
why_unstored views A ready (inl is_new) = absurd (new_not_ready (sym is_new ∙ ready))
why_unstored views A ready (inr why) = why.1
