-- Sets and resolved plans that were taken forward to a number: they have the same of the numbers from it on.
use Rattle.std.proofs.Common.{◌≡◌, ℕ, ◌+◌, ◌<◌, ◌≤◌, Bool, true, false, ◌&&◌, ◌||◌, not, List, [], ◌∷◌, length, drop, get_or, map, Vec, Box, Global, eqb, eqb-true, refl, sym, ap, subst, ◌∙◌, add-one, drop-cons, arith}
use Rattle.std.specs.Prelude.{filter, nat_le, Option, Some, slice_get}
use Rattle.std.specs.Option.{option_eq}
use Rattle.std.specs.List.{list_any, list_all}
use Rattle.std.proofs.Math.ListN.{set, get_or-map}
use Rattle.std.proofs.Math.Seq.{map-set_same}
use Rattle.std.proofs.lemmas.Bool.{le-leb, leb-true}
use Rattle.std.proofs.lemmas.Bool.Decides.{nat_tests}
use Rattle.std.proofs.lemmas.List.{drop_all, with_items_is, length-set, get_or-set_other}
use Rattle.std.specs.Vec.{with_items}
use Rattle.dir_index.specs.Postings.{Lists, has_number, IsRising}
use Rattle.search_plans.specs.declared.resolved.ResolvedPlan.{ResolvedPlan}
use Rattle.search_plans.specs.declared.resolved.ResolvedPlan.TheVariants as resolved
use Rattle.search_plans.specs.private.Resolved.{is_in_resolved, AreSameInRow}
use Rattle.search_plans.specs.private.Sets.{AreSameFrom}
use Rattle.search_plans.proofs.Rising.{has_filter, has_head, filter_rising, all_above, below_all}
use Rattle.search_plans.proofs.ResolvedPlans.{in_resolved-Union, in_resolved-Inter, in_resolved-Not}

-- a list without the numbers below one
and_yes : (a b : Bool) → b ≡ true → (a && b) ≡ a
and_yes true b h = h
and_yes false b h = refl

and_second : (a b : Bool) → (a && b) ≡ true → b ≡ true
and_second true b h = h
and_second false b h = cc

pub forward_same : (least : ℕ) (xs : List ℕ) → AreSameFrom least (λ n. has_number n (filter (nat_le least) xs))
    (λ n. has_number n xs)
forward_same least xs n le = has_filter (nat_le least) n xs ∙ and_yes (has_number n xs) (nat_le least n)
    (le-leb least n le)

-- the number that comes next in a rising list with none below n is n, if n is in the list
at_head : (n : ℕ) (xs : List ℕ) → IsRising xs → ((x : ℕ) → has_number x xs ≡ true → n ≤ x) →
    option_eq eqb (slice_get xs 0) (Some n) ≡ has_number n xs
at_head n [] rises least = refl
at_head n (x ∷ xs) rises least =
    let le : n ≤ x = least x (has_head x xs) in
    (elim (eqb x n) as (λ v. eqb x n ≡ v → v ≡ has_number n (x ∷ xs)) [
      | true ↦ λ e. let same : x ≡ n = eqb-true x n e in sym (subst (λ (m : ℕ). has_number m (x ∷ xs) ≡ true) same
          (has_head x xs))
      | false ↦ λ e.
          let less : n < x = grind (arith, nat_tests) in
          sym (below_all n (x ∷ xs) (less, all_above n x xs less rises.0))
    ]) refl

pub head_tells : (n : ℕ) (old now : List ℕ) (head : Option ℕ) (found : Bool) → IsRising old →
    now ≡ filter (nat_le n) old → head ≡ slice_get now 0 → found ≡ option_eq eqb head (Some n)
    → found ≡ has_number n old
head_tells n old now head found rises is next asks =
    let none_below : (x : ℕ) → has_number x (filter (nat_le n) old) ≡ true → n ≤ x =
    λ x there. leb-true n x (and_second (has_number x old) (nat_le n x) (sym (has_filter (nat_le n) x old) ∙ there)) in
    asks ∙ ap (λ (h : Option ℕ). option_eq eqb h (Some n)) (next ∙ ap (λ (xs : List ℕ). slice_get xs 0) is)
    ∙ at_head n (filter (nat_le n) old) (filter_rising (nat_le n) old rises) none_below
    ∙ forward_same n old n (omega arith)

-- a plan whose parts were taken forward
same_union : (kept : Lists) (least : ℕ) (v w : Vec ResolvedPlan Global) → AreSameInRow least kept v.items w.items
    → AreSameFrom least (is_in_resolved kept (resolved.Union v)) (is_in_resolved kept (resolved.Union w))
same_union kept least v w same n le = in_resolved-Union kept n v ∙ ap (list_any (λ b. b)) (same n le)
    ∙ sym (in_resolved-Union kept n w)

same_inter : (kept : Lists) (least : ℕ) (v w : Vec ResolvedPlan Global) → AreSameInRow least kept v.items w.items
    → AreSameFrom least (is_in_resolved kept (resolved.Inter v)) (is_in_resolved kept (resolved.Inter w))
same_inter kept least v w same n le = in_resolved-Inter kept n v ∙ ap (list_all (λ b. b)) (same n le)
    ∙ sym (in_resolved-Inter kept n w)

row_written : (kept : Lists) (least : ℕ) (v : Vec ResolvedPlan Global) (now : List ResolvedPlan) →
    length now ≡ length v.items → AreSameInRow least kept now v.items →
    AreSameInRow least kept (with_items v now).items v.items
row_written kept least v now long same n le = ap (map (λ (r : ResolvedPlan). is_in_resolved kept r n))
    (with_items_is v now (long ∙ sym v.ok.0)) ∙ same n le

pub union_forward : (kept : Lists) (least : ℕ) (v : Vec ResolvedPlan Global) (now : List ResolvedPlan) →
    length now ≡ length v.items → AreSameInRow least kept now v.items
    → AreSameFrom least (is_in_resolved kept (resolved.Union (with_items v now)))
    (is_in_resolved kept (resolved.Union v))
union_forward kept least v now long same = same_union kept least (with_items v now) v
    (row_written kept least v now long same)

pub inter_forward : (kept : Lists) (least : ℕ) (v : Vec ResolvedPlan Global) (now : List ResolvedPlan) →
    length now ≡ length v.items → AreSameInRow least kept now v.items
    → AreSameFrom least (is_in_resolved kept (resolved.Inter (with_items v now)))
    (is_in_resolved kept (resolved.Inter v))
inter_forward kept least v now long same = same_inter kept least (with_items v now) v
    (row_written kept least v now long same)

pub same_not : (kept : Lists) (least : ℕ) (a b : Box ResolvedPlan Global) →
    AreSameFrom least (is_in_resolved kept a.value) (is_in_resolved kept b.value)
    → AreSameFrom least (is_in_resolved kept (resolved.Not a)) (is_in_resolved kept (resolved.Not b))
same_not kept least a b same n le = in_resolved-Not kept n a ∙ ap not (same n le) ∙ sym (in_resolved-Not kept n b)

-- one plan of a row was taken forward
pub row_step : (kept : Lists) (least : ℕ) (old now new : List ResolvedPlan) (i : ℕ) (d r : ResolvedPlan) →
    AreSameInRow least kept now old
    → AreSameFrom least (is_in_resolved kept r) (is_in_resolved kept (get_or now i d)) → new ≡ set now i r →
    AreSameInRow least kept new old
row_step kept least old now new i d r row one is n le =
    let has : ResolvedPlan → Bool = λ q. is_in_resolved kept q n in
    ap (map has) is ∙ map-set_same has now i r d (one n le) ∙ row n le

-- those behind it are as they were
pub unvisited_step : {X : Type 0} (old now : List X) (i : ℕ) (x : X) → length now ≡ length old
    × ((k : ℕ) (d : X) → i ≤ k → get_or now k d ≡ get_or old k d)
    → length (set now i x) ≡ length old × ((k : ℕ) (d : X) → i + 1 ≤ k → get_or (set now i x) k d ≡ get_or old k d)
unvisited_step old now i x is = (
  length-set now i x ∙ is.0,
  λ k d le. get_or-set_other now i k x d (λ e.
      omega arith) ∙ is.1 k d (omega arith),
)

-- what a plan of the row says, it said at first
at_first : {X : Type 0} (has : X → Bool) (old now : List X) (i : ℕ) (d : X) → map has now ≡ map has old →
    has (get_or now i d) ≡ has (get_or old i d)
at_first has old now i d same = sym (get_or-map has now i d) ∙ ap (λ (bs : List Bool). get_or bs i (has d)) same
    ∙ get_or-map has old i d

-- a row's answer, when the plan at a place is asked
any_at : {X : Type 0} (has : X → Bool) (old : List X) (i : ℕ) (d : X) → i < length old → list_any has (drop i old) ≡
    (has (get_or old i d) || list_any has (drop (i + 1) old))
any_at has old i d lt = rw add-one (ap (list_any has) (drop-cons old i d lt))

all_at : {X : Type 0} (has : X → Bool) (old : List X) (i : ℕ) (d : X) → i < length old → list_all has (drop i old) ≡
    (has (get_or old i d) && list_all has (drop (i + 1) old))
all_at has old i d lt = rw add-one (ap (list_all has) (drop-cons old i d lt))

-- the plan at a place of a row was asked, and doesn't decide
pub any_step : {X : Type 0} (has : X → Bool) (old now : List X) (i : ℕ) (d : X) (found : Bool) → map has now ≡
    map has old → i < length old → found ≡ has (get_or now i d) → found ≡ false
    → list_any has (drop i old) ≡ list_any has old → list_any has (drop (i + 1) old) ≡ list_any has old
any_step has old now i d found same lt is fails left =
    sym (any_at has old i d lt ∙ ap (λ (b : Bool). b || list_any has (drop (i + 1) old))
    (sym (is ∙ at_first has old now i d same) ∙ fails)) ∙ left

pub all_step : {X : Type 0} (has : X → Bool) (old now : List X) (i : ℕ) (d : X) (found : Bool) → map has now ≡
    map has old → i < length old → found ≡ has (get_or now i d) → found ≡ true
    → list_all has (drop i old) ≡ list_all has old → list_all has (drop (i + 1) old) ≡ list_all has old
all_step has old now i d found same lt is holds left =
    sym (all_at has old i d lt ∙ ap (λ (b : Bool). b && list_all has (drop (i + 1) old))
    (sym (is ∙ at_first has old now i d same) ∙ holds)) ∙ left

-- no plan of a row decides
pub any_none : {X : Type 0} (has : X → Bool) (old : List X) (i : ℕ) → length old ≤ i → list_any has (drop i old) ≡
    list_any has old → false ≡ list_any has old
any_none has old i end left = sym (ap (list_any has) (drop_all i old end)) ∙ left

pub all_none : {X : Type 0} (has : X → Bool) (old : List X) (i : ℕ) → length old ≤ i → list_all has (drop i old) ≡
    list_all has old → true ≡ list_all has old
all_none has old i end left = sym (ap (list_all has) (drop_all i old end)) ∙ left
