-- Where sessions are, and the lists of places beside that, after a change at one place. Facts on lists come in and go
-- out.
use Rattle.std.proofs.Common.{◌≡◌, ◌≢◌, ◌⊎◌, inl, inr, ℕ, zero, suc, ◌+◌, ◌<◌, ◌≤◌, List, [], ◌∷◌, ◌++◌, length, Bool, true, false, cond, Option, None, Some, refl, sym, ap, subst, ◌∙◌, arith}
use Rattle.std.specs.Prelude.{slice_get, slice_set, replicate, nat_eq, nat_lt, eqb, leb}
use Rattle.std.specs.List.{IsDistinct, AllByRecursion, list_any}
use Rattle.std.proofs.lemmas.Bool.Decides.{eqb_tells, leb_tells}
use Rattle.std.proofs.lemmas.Bool.{ltb-true, lt-ltb}
use Rattle.std.proofs.lemmas.Option.{slice_get_within}
use Rattle.std.proofs.lemmas.Map.Steps.{length-le_from_distinct_below}
use Rattle.session_table.specs.private.Stands.{times, once, is_free, is_ready, is_updates, is_waiting, is_in_queue, is_made, is_here, has_some}
use Rattle.session_turns.specs.declared.spot.Queue.{Queue}
use Rattle.session_turns.specs.declared.spot.Spot.{Spot}
use Rattle.session_turns.specs.declared.spot.Spot.TheVariants.{Away as SpotAway, In}
use Rattle.session_table.specs.declared.place_state.PlaceState.{PlaceState}
use Rattle.session_table.specs.declared.place_state.PlaceState.TheVariants.{New, Free, Away, Waits, Ready, Updates}

get_same : {X : Type 0} (xs : List X) (i : ℕ) (w : X) → i < length xs → slice_get (slice_set xs i w) i ≡ Some w
get_same [] i w h = absurd (omega arith)
get_same (x ∷ xs) zero w h = refl
get_same (x ∷ xs) (suc i) w h = get_same xs i w (omega arith)

apart_before : (i j : ℕ) → suc j ≢ suc i → j ≢ i
apart_before i j h e = h (ap suc e)

get_other : {X : Type 0} (xs : List X) (i j : ℕ) (w : X) → j ≢ i → slice_get (slice_set xs i w) j ≡ slice_get xs j
get_other [] i j w h = refl
get_other (x ∷ xs) zero zero w h = absurd (h refl)
get_other (x ∷ xs) zero (suc j) w h = refl
get_other (x ∷ xs) (suc i) zero w h = refl
get_other (x ∷ xs) (suc i) (suc j) w h = get_other xs i j w (apart_before i j h)

get_pushed : {X : Type 0} (xs : List X) (w : X) → slice_get (xs ++ w ∷ []) (length xs) ≡ Some w
get_pushed [] w = refl
get_pushed (x ∷ xs) w = get_pushed xs w

get_before : {X : Type 0} (xs : List X) (j : ℕ) (w : X) → j ≢ length xs → slice_get (xs ++ w ∷ []) j ≡ slice_get xs j
get_before [] zero w h = absurd (h refl)
get_before [] (suc j) w h = refl
get_before (x ∷ xs) zero w h = refl
get_before (x ∷ xs) (suc j) w h = get_before xs j w (apart_before (length xs) j h)

pub length_set : {X : Type 0} (xs : List X) (i : ℕ) (w : X) → length (slice_set xs i w) ≡ length xs
length_set [] i w = refl
length_set (x ∷ xs) zero w = refl
length_set (x ∷ xs) (suc i) w = let k = length_set xs i w in omega arith

-- what was put at its place is there
pub own_place : {G : Type 0} (place_of : G → ℕ) (g h : G) → Some (Some g) ≡ Some (Some h) → place_of h ≡ place_of g
own_place place_of g h e = cc

-- and what has become of it there
pub own_after : {G : Type 0} (place_of : G → ℕ) (x : Option G) (g h : G) (p : ℕ) → x ≡ Some g → place_of g ≡ p →
    Some x ≡ Some (Some h) → place_of h ≡ p
own_after place_of x g h p e f k = cc

-- what holds at each place of a list holds after one place is set
pub set_each : {X : Type 0} (P : ℕ → Option X → Type 0) (xs : List X) (p : ℕ) (x : X) → p < length xs → P p (Some x) →
    ((q : ℕ) → P q (slice_get xs q)) → (q : ℕ) → P q (slice_get (slice_set xs p x) q)
set_each P xs p x within here each q = by (eqb_tells q p)
  where
    by : ((nat_eq q p ≡ true) × (q ≡ p)) ⊎ ((nat_eq q p ≡ false) × (q ≢ p)) → P q (slice_get (slice_set xs p x) q)
    by (inl e) = subst (λ (r : ℕ). P r (slice_get (slice_set xs p x) r)) (sym e.1)
        (subst (P p) (sym (get_same xs p x within)) here)
    by (inr e) = subst (P q) (sym (get_other xs p q x e.1)) (each q)

-- the same of two lists
pub set_both : {X Y : Type 0} (P : ℕ → Option X → Option Y → Type 0) (xs : List X) (ys : List Y) (p : ℕ) (x : X)
    (y : Y) → p < length xs → p < length ys → P p (Some x) (Some y) →
    ((q : ℕ) → P q (slice_get xs q) (slice_get ys q)) → (q : ℕ) → P q (slice_get (slice_set xs p x) q)
    (slice_get (slice_set ys p y) q)
set_both P xs ys p x y within also here each q = by (eqb_tells q p)
  where
    at : P p (slice_get (slice_set xs p x) p) (slice_get (slice_set ys p y) p)
    at = subst (λ (g : Option _). P p g (slice_get (slice_set ys p y) p)) (sym (get_same xs p x within))
        (subst (P p (Some x)) (sym (get_same ys p y also)) here)

    by : ((nat_eq q p ≡ true) × (q ≡ p)) ⊎ ((nat_eq q p ≡ false) × (q ≢ p)) → P q (slice_get (slice_set xs p x) q)
        (slice_get (slice_set ys p y) q)
    by (inl e) = subst (λ (r : ℕ). P r (slice_get (slice_set xs p x) r) (slice_get (slice_set ys p y) r)) (sym e.1) at
    by (inr e) = subst (λ (g : Option _). P q g (slice_get (slice_set ys p y) q)) (sym (get_other xs p q x e.1))
        (subst (P q (slice_get xs q)) (sym (get_other ys p q y e.1)) (each q))

-- and after one more is put behind the list
pub push_each : {X : Type 0} (P : ℕ → Option X → Type 0) (xs : List X) (x : X) → P (length xs) (Some x) →
    ((q : ℕ) → P q (slice_get xs q)) → (q : ℕ) → P q (slice_get (xs ++ x ∷ []) q)
push_each P xs x here each q = by (eqb_tells q (length xs))
  where
    by : ((nat_eq q (length xs) ≡ true) × (q ≡ length xs)) ⊎ ((nat_eq q (length xs) ≡ false) × (q ≢ length xs)) →
        P q (slice_get (xs ++ x ∷ []) q)
    by (inl e) = subst (λ (r : ℕ). P r (slice_get (xs ++ x ∷ []) r)) (sym e.1)
        (subst (P (length xs)) (sym (get_pushed xs x)) here)
    by (inr e) = subst (P q) (sym (get_before xs q x e.1)) (each q)

pub times_append : (q : ℕ) (xs ys : List ℕ) → times q (xs ++ ys) ≡ times q xs + times q ys
times_append q [] ys = omega arith
times_append q (x ∷ xs) ys = omega (arith, times_append q xs ys)

-- What is listed goes on to be what stands so, where a place is set, and a list has changed by what it stood and stands
-- for.
module _ (is : PlaceState → Bool) (stands : List PlaceState) (p : ℕ) (was now : PlaceState)
    (stood : slice_get stands p ≡ Some was) where
  within : p < length stands
  within = slice_get_within stands p was stood

  moves : (xs ys : List ℕ) → ((q : ℕ) → times q xs ≡ once is (slice_get stands q)) →
      ((q : ℕ) → times q ys + cond (nat_eq q p) (cond (is was) 1 0) 0 ≡ times q xs + cond (nat_eq q p)
      (cond (is now) 1 0) 0) →
      (q : ℕ) → times q ys ≡ once is (slice_get (slice_set stands p now) q)
  moves xs ys listed change q = by (eqb_tells q p)
    where
      here : times p ys ≡ once is (Some now)
      here = at (eqb_tells p p)
        where
          at : ((nat_eq p p ≡ true) × (p ≡ p)) ⊎ ((nat_eq p p ≡ false) × (p ≢ p)) → times p ys ≡ once is (Some now)
          at (inl e) =
              let l : times p xs ≡ cond (is was) 1 0 = listed p ∙ ap (once is) stood in
              let k : times p ys + cond (is was) 1 0 ≡ times p xs + cond (is now) 1 0 = rw e.0 at (change p) in
              omega arith
          at (inr e) = absurd (e.1 refl)

      by : ((nat_eq q p ≡ true) × (q ≡ p)) ⊎ ((nat_eq q p ≡ false) × (q ≢ p)) →
          times q ys ≡ once is (slice_get (slice_set stands p now) q)
      by (inl e) = subst (λ (r : ℕ). times r ys ≡ once is (slice_get (slice_set stands p now) r)) (sym e.1) (here
          ∙ ap (once is) (sym (get_same stands p now within)))
      by (inr e) =
          let k : times q ys + 0 ≡ times q xs + 0 = rw e.0 at (change q) in
          let l = listed q in
          let j : times q ys ≡ times q xs = omega arith in
          j ∙ l ∙ ap (once is) (sym (get_other stands p q now e.1))

  -- it is in a list once more, of what it stands for now
  pub joins_list : (xs ys : List ℕ) → is was ≡ false → is now ≡ true →
      ((q : ℕ) → times q ys ≡ times q xs + cond (nat_eq q p) 1 0) →
      ((q : ℕ) → times q xs ≡ once is (slice_get stands q)) → (q : ℕ) →
      times q ys ≡ once is (slice_get (slice_set stands p now) q)
  joins_list xs ys f g more listed = moves xs ys listed (λ q. rw (f, g) (change q (nat_eq q p) refl))
    where
      change : (q : ℕ) (b : Bool) → nat_eq q p ≡ b → times q ys + cond b 0 0 ≡ times q xs + cond b 1 0
      change q true e = let t : times q ys ≡ times q xs + 1 = rw e at (more q) in omega arith
      change q false e = let t : times q ys ≡ times q xs + 0 = rw e at (more q) in omega arith

  -- or once less, of what it stood for
  pub leaves_list : (xs ys : List ℕ) → is was ≡ true → is now ≡ false →
      ((q : ℕ) → times q ys + cond (nat_eq q p) 1 0 ≡ times q xs) →
      ((q : ℕ) → times q xs ≡ once is (slice_get stands q)) → (q : ℕ) →
      times q ys ≡ once is (slice_get (slice_set stands p now) q)
  leaves_list xs ys f g less listed = moves xs ys listed (λ q. rw (f, g) (change q (nat_eq q p) refl))
    where
      change : (q : ℕ) (b : Bool) → nat_eq q p ≡ b → times q ys + cond b 1 0 ≡ times q xs + cond b 0 0
      change q true e = let t : times q ys + 1 ≡ times q xs = rw e at (less q) in omega arith
      change q false e = let t : times q ys + 0 ≡ times q xs = rw e at (less q) in omega arith

  -- a list of what it neither stood nor stands for stays
  pub stays : (xs : List ℕ) → is was ≡ false → is now ≡ false → ((q : ℕ) → times q xs ≡ once is (slice_get stands q)) →
      (q : ℕ) → times q xs ≡ once is (slice_get (slice_set stands p now) q)
  stays xs f g listed = moves xs xs listed (λ q. rw (f, g) refl)

  -- it is put behind the list of what it stands for
  pub joins : (xs : List ℕ) → is was ≡ false → is now ≡ true → ((q : ℕ) → times q xs ≡ once is (slice_get stands q)) →
      (q : ℕ) → times q (xs ++ p ∷ []) ≡ once is (slice_get (slice_set stands p now) q)
  joins xs f g listed = moves xs (xs ++ p ∷ []) listed (λ q. rw (f, g) (change q (nat_eq q p) refl))
    where
      change : (q : ℕ) (b : Bool) → nat_eq q p ≡ b → times q (xs ++ p ∷ []) + cond b 0 0 ≡ times q xs + cond b 1 0
      change q true e = let t = times_append q xs (p ∷ []) in let u : times q (p ∷ []) ≡ 1 = rw e refl in omega arith
      change q false e = let t = times_append q xs (p ∷ []) in let u : times q (p ∷ []) ≡ 0 = rw e refl in omega arith

  -- it is taken off the front of the list of what it stood for
  pub leaves : (xs : List ℕ) → is was ≡ true → is now ≡ false →
      ((q : ℕ) → times q (p ∷ xs) ≡ once is (slice_get stands q)) →
      (q : ℕ) → times q xs ≡ once is (slice_get (slice_set stands p now) q)
  leaves xs f g listed = moves (p ∷ xs) xs listed (λ q. rw (f, g) (change q (nat_eq q p) refl))
    where
      change : (q : ℕ) (b : Bool) → nat_eq q p ≡ b → times q xs + cond b 1 0 ≡ times q (p ∷ xs) + cond b 0 0
      change q true e = let u : times q (p ∷ xs) ≡ 1 + times q xs = rw e refl in omega arith
      change q false e = let u : times q (p ∷ xs) ≡ 0 + times q xs = rw e refl in omega arith

  -- or off its back
  pub leaves_back : (xs : List ℕ) → is was ≡ true → is now ≡ false →
      ((q : ℕ) → times q (xs ++ p ∷ []) ≡ once is (slice_get stands q)) →
      (q : ℕ) → times q xs ≡ once is (slice_get (slice_set stands p now) q)
  leaves_back xs f g listed = moves (xs ++ p ∷ []) xs listed (λ q. rw (f, g) (change q (nat_eq q p) refl))
    where
      change : (q : ℕ) (b : Bool) → nat_eq q p ≡ b → times q xs + cond b 1 0 ≡ times q (xs ++ p ∷ []) + cond b 0 0
      change q true e = let t = times_append q xs (p ∷ []) in let u : times q (p ∷ []) ≡ 1 = rw e refl in omega arith
      change q false e = let t = times_append q xs (p ∷ []) in let u : times q (p ∷ []) ≡ 0 = rw e refl in omega arith

-- a place that is listed stands so
pub stands_free : (s : Option PlaceState) → 0 < once is_free s → s ≡ Some Free
stands_free None h = absurd (omega arith)
stands_free (Some New) h = absurd (omega arith)
stands_free (Some Free) h = refl
stands_free (Some Away) h = absurd (omega arith)
stands_free (Some Waits) h = absurd (omega arith)
stands_free (Some Ready) h = absurd (omega arith)
stands_free (Some Updates) h = absurd (omega arith)

pub stands_ready : (s : Option PlaceState) → 0 < once is_ready s → s ≡ Some Ready
stands_ready None h = absurd (omega arith)
stands_ready (Some New) h = absurd (omega arith)
stands_ready (Some Free) h = absurd (omega arith)
stands_ready (Some Away) h = absurd (omega arith)
stands_ready (Some Waits) h = absurd (omega arith)
stands_ready (Some Ready) h = refl
stands_ready (Some Updates) h = absurd (omega arith)

pub stands_updates : (s : Option PlaceState) → 0 < once is_updates s → s ≡ Some Updates
stands_updates None h = absurd (omega arith)
stands_updates (Some New) h = absurd (omega arith)
stands_updates (Some Free) h = absurd (omega arith)
stands_updates (Some Away) h = absurd (omega arith)
stands_updates (Some Waits) h = absurd (omega arith)
stands_updates (Some Ready) h = absurd (omega arith)
stands_updates (Some Updates) h = refl

-- one that waits stands so
pub stands_waiting : (s : Option PlaceState) → is_waiting s ≡ true → s ≡ Some Waits
stands_waiting None h = cc
stands_waiting (Some New) h = cc
stands_waiting (Some Free) h = cc
stands_waiting (Some Away) h = cc
stands_waiting (Some Waits) h = refl
stands_waiting (Some Ready) h = cc
stands_waiting (Some Updates) h = cc

-- one that isn't made is new
pub stands_new : (stands : List PlaceState) (p : ℕ) → p < length stands → is_made (slice_get stands p) ≡ false →
    slice_get stands p ≡ Some New
stands_new [] p h e = absurd (omega arith)
stands_new (New ∷ ss) zero h e = refl
stands_new (Free ∷ ss) zero h e = cc
stands_new (Away ∷ ss) zero h e = cc
stands_new (Waits ∷ ss) zero h e = cc
stands_new (Ready ∷ ss) zero h e = cc
stands_new (Updates ∷ ss) zero h e = cc
stands_new (s ∷ ss) (suc p) h e = stands_new ss p (omega arith) e

pub same_number : (p : ℕ) → nat_eq p p ≡ true
same_number p = by (eqb_tells p p)
  where
    by : ((nat_eq p p ≡ true) × (p ≡ p)) ⊎ ((nat_eq p p ≡ false) × (p ≢ p)) → nat_eq p p ≡ true
    by (inl e) = e.0
    by (inr e) = absurd (e.1 refl)

pub first_listed : (p : ℕ) (ps : List ℕ) → 0 < times p (p ∷ ps)
first_listed p ps = rw (same_number p) (omega arith)

pub last_listed : (p : ℕ) (ps : List ℕ) → 0 < times p (ps ++ p ∷ [])
last_listed p ps = let t = times_append p ps (p ∷ []) in let f = first_listed p [] in omega arith

pub last_is_free : (stands : List PlaceState) (free left : List ℕ) (p : ℕ) → free ≡ left ++ p ∷ [] →
    ((q : ℕ) → times q free ≡ once is_free (slice_get stands q)) → slice_get stands p ≡ Some Free
last_is_free stands free left p e listed = let f : 0 < times p free = rw e (last_listed p left) in let l =
    listed p in stands_free (slice_get stands p) (omega arith)

pub listed_is_ready : (stands : List PlaceState) (ready : List ℕ) (p : ℕ) → 0 < times p ready →
    ((q : ℕ) → times q ready ≡ once is_ready (slice_get stands q)) → slice_get stands p ≡ Some Ready
listed_is_ready stands ready p f listed = let l = listed p in stands_ready (slice_get stands p) (omega arith)

pub first_is_updates : (stands : List PlaceState) (updates left : List ℕ) (p : ℕ) → updates ≡ p ∷ left →
    ((q : ℕ) → times q updates ≡ once is_updates (slice_get stands q)) → slice_get stands p ≡ Some Updates
first_is_updates stands updates left p e listed = let f : 0 < times p updates = rw e (first_listed p left) in let l =
    listed p in stands_updates (slice_get stands p) (omega arith)

-- what is asked of a place's stand stays, where it is the same before and after
pub same_of : {B : Type 0} (f : Option PlaceState → B) (g : ℕ → B) (stands : List PlaceState) (p : ℕ)
    (was now : PlaceState) → slice_get stands p ≡ Some was → f (Some was) ≡ f (Some now) →
    ((q : ℕ) → g q ≡ f (slice_get stands q)) → (q : ℕ) → g q ≡ f (slice_get (slice_set stands p now) q)
same_of f g stands p was now stood same each =
    set_each (λ q s. g q ≡ f s) stands p now (slice_get_within stands p was stood) (each p ∙ ap f stood ∙ same) each

-- a place that is in no queue of the book is away there
pub away_in_book : (spots : List Spot) (p : ℕ) → p < length spots → is_in_queue (slice_get spots p) ≡ false →
    slice_get spots p ≡ Some SpotAway
away_in_book [] p h e = absurd (omega arith)
away_in_book (SpotAway ∷ ss) zero h e = refl
away_in_book (In queue turn ∷ ss) zero h e = cc
away_in_book (s ∷ ss) (suc p) h e = away_in_book ss p (omega arith) e

-- a session is there, where that is said
pub some_there : {G : Type 0} (o : Option (Option G)) → has_some o ≡ true → (g : G) × (o ≡ Some (Some g))
some_there None e = cc
some_there (Some None) e = cc
some_there (Some (Some g)) e = (g, refl)

pub is_below : (m n : ℕ) → m < n → nat_lt m n ≡ true
is_below m n h = lt-ltb m n h

pub not_below : (m n : ℕ) → n ≤ m → nat_lt m n ≡ false
not_below m n h = by (nat_lt m n) refl
  where
    by : (b : Bool) → nat_lt m n ≡ b → nat_lt m n ≡ false
    by true e = let k = ltb-true m n e in absurd (omega arith)
    by false e = e

pub below_made : (stands : List PlaceState) (p n : ℕ) (s : PlaceState) → nat_lt p n ≡ is_made (slice_get stands p) →
    slice_get stands p ≡ Some s → is_made (Some s) ≡ true → p < n
below_made stands p n s e stood made = ltb-true p n (e ∙ ap is_made stood ∙ made)

-- the next place is made
pub made_next : (stands : List PlaceState) (n : ℕ) → n < length stands →
    ((q : ℕ) → nat_lt q n ≡ is_made (slice_get stands q)) →
    (m : ℕ) → m ≡ n + 1 → (q : ℕ) → nat_lt q m ≡ is_made (slice_get (slice_set stands n Away) q)
made_next stands n within each m e q = by (eqb_tells q n)
  where
    by : ((nat_eq q n ≡ true) × (q ≡ n)) ⊎ ((nat_eq q n ≡ false) × (q ≢ n)) →
        nat_lt q m ≡ is_made (slice_get (slice_set stands n Away) q)
    by (inl f) =
        let k = f.1 in
        is_below q m (omega arith) ∙ sym (ap is_made (ap (slice_get (slice_set stands n Away)) k
        ∙ get_same stands n Away within))
    by (inr f) = step (nat_lt q n) refl ∙ each q ∙ sym (ap is_made (get_other stands n q Away f.1))
      where
        step : (b : Bool) → nat_lt q n ≡ b → nat_lt q m ≡ nat_lt q n
        step true g = let k = ltb-true q n g in is_below q m (omega arith) ∙ sym g
        step false g = let k = f.1 in not_below q m (above (le_or q n)) ∙ sym g
          where
            le_or : (a b : ℕ) → (b ≤ a) ⊎ (a < b)
            le_or a b = orders (leb_tells b a)
              where
                orders : ((leb b a ≡ true) × (b ≤ a)) ⊎ ((leb b a ≡ false) × (a < b)) → (b ≤ a) ⊎ (a < b)
                orders (inl x) = inl x.1
                orders (inr x) = inr x.1

            above : (n ≤ q) ⊎ (q < n) → m ≤ q
            above (inl h) = let k = f.1 in omega arith
            above (inr h) = let x : false ≡ true = sym g ∙ is_below q n h in cc

-- all places alike
pub replicate_each : {X B : Type 0} (f : Option X → B) (b : B) (x : X) → f None ≡ b → f (Some x) ≡ b → (size p : ℕ) →
    f (slice_get (replicate size x) p) ≡ b
replicate_each f b x none some zero p = none
replicate_each f b x none some (suc size) zero = some
replicate_each f b x none some (suc size) (suc p) = replicate_each f b x none some size p

-- A list has room for a place that isn't in it.
once_le : (is : PlaceState → Bool) (s : Option PlaceState) → once is s ≤ 1
once_le is None = omega arith
once_le is (Some s) = by (is s) refl
  where
    by : (b : Bool) → is s ≡ b → cond (is s) 1 0 ≤ 1
    by true e = rw e (omega arith)
    by false e = rw e (omega arith)

once_within : (is : PlaceState → Bool) (stands : List PlaceState) (q : ℕ) → 0 < once is (slice_get stands q) →
    q < length stands
once_within is stands q h = by (slice_get stands q) refl h
  where
    by : (o : Option PlaceState) → slice_get stands q ≡ o → 0 < once is o → q < length stands
    by None e k = absurd (omega arith)
    by (Some s) e k = slice_get_within stands q s e

counted : (q p : ℕ) (xs : List ℕ) → eqb q p ≡ true → times q (p ∷ xs) ≡ 1 + times q xs
counted q p xs e = rw e refl

passed : (q p : ℕ) (xs : List ℕ) → eqb q p ≡ false → times q (p ∷ xs) ≡ times q xs
passed q p xs e = rw e (omega arith)

none_any : (x : ℕ) (xs : List ℕ) → times x xs ≡ 0 → AllByRecursion (λ y. eqb x y ≡ false) xs
none_any x [] e = tt
none_any x (y ∷ ys) e = by (none_any x ys) (eqb_tells x y)
  where
    by : (times x ys ≡ 0 → AllByRecursion (λ y. eqb x y ≡ false) ys) → ((eqb x y ≡ true) × (x ≡ y))
        ⊎ ((eqb x y ≡ false) × (x ≢ y)) → AllByRecursion (λ y. eqb x y ≡ false) (y ∷ ys)
    by rest (inl f) = let k = counted x y ys f.0 in absurd (omega arith)
    by rest (inr f) = let k = passed x y ys f.0 in (f.0, rest (omega arith))

fewer : (q p : ℕ) (xs : List ℕ) → times q xs ≤ times q (p ∷ xs)
fewer q p xs = omega arith

distinct : (ps : List ℕ) → ((q : ℕ) → times q ps ≤ 1) → IsDistinct eqb ps
unfolding IsDistinct
distinct [] h = tt
distinct (x ∷ xs) h =
    let k = h x in let j = counted x x xs (same_number x) in
    (none_any x xs (omega arith), distinct xs (λ q. let i = h q in let l = fewer q x xs in omega arith))

listed_any : (q : ℕ) (ps : List ℕ) → list_any (eqb q) ps ≡ true → 0 < times q ps
listed_any q [] e = cc
listed_any q (x ∷ xs) e = by (listed_any q xs) (eqb q x) refl
  where
    by : (list_any (eqb q) xs ≡ true → 0 < times q xs) → (b : Bool) → eqb q x ≡ b → 0 < times q (x ∷ xs)
    by rest true f = let k = counted q x xs f in omega arith
    by rest false f = let h : list_any (eqb q) xs ≡ true = rw f at e in let k = rest h in let l = fewer q x xs
        in omega arith

pub has_room : (is : PlaceState → Bool) (stands : List PlaceState) (p : ℕ) (was : PlaceState) (xs : List ℕ) →
    slice_get stands p ≡ Some was → is was ≡ false →
    ((q : ℕ) → times q xs ≡ once is (slice_get stands q)) → length xs < length stands
has_room is stands p was xs stood not listed = let k = length-le_from_distinct_below (p ∷ xs) (length stands)
    (distinct (p ∷ xs) at_most) inside in omega arith
  where
    none_here : times p xs ≡ 0
    none_here = listed p ∙ ap (once is) stood ∙ rw not refl

    at_most : (q : ℕ) → times q (p ∷ xs) ≤ 1
    at_most q = by (eqb_tells q p)
      where
        by : ((eqb q p ≡ true) × (q ≡ p)) ⊎ ((eqb q p ≡ false) × (q ≢ p)) → times q (p ∷ xs) ≤ 1
        by (inl e) = let k : times q xs ≡ 0 = ap (λ (r : ℕ). times r xs) e.1 ∙ none_here in let j = counted q p xs e.0
            in omega arith
        by (inr e) = let k = listed q in let l = once_le is (slice_get stands q) in let j = passed q p xs e.0 in omega
            arith

    inside : (q : ℕ) → list_any (eqb q) (p ∷ xs) ≡ true → q < length stands
    inside q e = by (eqb_tells q p)
      where
        by : ((eqb q p ≡ true) × (q ≡ p)) ⊎ ((eqb q p ≡ false) × (q ≢ p)) → q < length stands
        by (inl f) = let k = slice_get_within stands p was stood in let i = f.1 in omega arith
        by (inr f) =
            let h = listed_any q (p ∷ xs) e in
            let j = passed q p xs f.0 in
            let l = listed q in
            once_within is stands q (omega arith)

-- a place that is in a queue of the book waits there
pub waits_in_book : (stands : List PlaceState) (spots : List Spot) (p : ℕ) (queue : Queue) (turn : ℕ) →
    ((q : ℕ) → is_in_queue (slice_get spots q) ≡ is_waiting (slice_get stands q)) →
    slice_get spots p ≡ Some (In queue turn) → slice_get stands p ≡ Some Waits
waits_in_book stands spots p queue turn waits in_queue = stands_waiting (slice_get stands p) (sym (waits p)
    ∙ ap is_in_queue in_queue)

-- a session is at a place that says so
pub session_there : {G : Type 0} (stands : List PlaceState) (sessions : List (Option G)) (p : ℕ) (s : PlaceState) →
    ((q : ℕ) → has_some (slice_get sessions q) ≡ is_here (slice_get stands q)) →
    slice_get stands p ≡ Some s → is_here (Some s) ≡ true → (g : G) × (slice_get sessions p ≡ Some (Some g))
session_there stands sessions p s here stood says = some_there (slice_get sessions p) (here p ∙ ap is_here stood ∙ says)

pub length_same : {X : Type 0} (size : ℕ) (x : X) → length (replicate size x) ≡ size
length_same zero x = refl
length_same (suc size) x = let k = length_same size x in omega arith
