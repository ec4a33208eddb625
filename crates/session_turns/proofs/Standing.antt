-- The queues of a table go on to tell its places. Facts on lists and look-ups come in and go out; no value of the
-- program is here.
use Rattle.std.proofs.Common.{◌≡◌, ◌≢◌, ◌⊎◌, inl, inr, ℕ, zero, suc, ◌+◌, ◌<◌, ◌≤◌, List, [], ◌∷◌, length, Bool, true, false, ◌&&◌, cond, Option, None, Some, refl, sym, ap, subst, ◌∙◌, arith}
use Rattle.std.specs.Prelude.{slice_get, slice_set, nat_eq, IfSome, IfNone}
use Rattle.std.proofs.lemmas.Bool.Decides.{eqb_tells}
use Rattle.std.proofs.lemmas.Option.{slice_get_within}
use Rattle.session_turns.specs.Places.{IsAway, IsIn, IsLongest, NoneIn, HasPut}
use Rattle.session_turns.specs.private.Listed.{is_queue, IsFirstAt, Tells, AllTell}
use Rattle.session_turns.specs.declared.spot.Queue.{Queue}
use Rattle.session_turns.specs.declared.spot.Queue.TheVariants.{Silent, Inside, Unsent, Leaving, Delayed}
use Rattle.session_turns.specs.declared.spot.Spot.{Spot}
use Rattle.session_turns.specs.declared.spot.Spot.TheVariants.{Away, In}

get_same : {X : Type 0} (xs : List X) (i : ℕ) (w : X) → i < length xs → slice_get (slice_set xs i w) i ≡ Some w
get_same [] i w h = absurd (omega arith)
get_same (x ∷ xs) zero w h = refl
get_same (x ∷ xs) (suc i) w h = get_same xs i w (omega arith)

apart_before : (i j : ℕ) → suc j ≢ suc i → j ≢ i
apart_before i j h e = h (ap suc e)

get_other : {X : Type 0} (xs : List X) (i j : ℕ) (w : X) → j ≢ i → slice_get (slice_set xs i w) j ≡ slice_get xs j
get_other [] i j w h = refl
get_other (x ∷ xs) zero zero w h = absurd (h refl)
get_other (x ∷ xs) zero (suc j) w h = refl
get_other (x ∷ xs) (suc i) zero w h = refl
get_other (x ∷ xs) (suc i) (suc j) w h = get_other xs i j w (apart_before i j h)

-- what stands where, once a place is set
is_in_set : (spots : List Spot) (p : ℕ) (x : Spot) (q : ℕ) (queue : Queue) (t : ℕ) → p < length spots →
    IsIn (slice_set spots p x) q queue t →
    ((q ≡ p) × (x ≡ In queue t)) ⊎ ((q ≢ p) × IsIn spots q queue t)
is_in_set spots p x q queue t within is = by (eqb_tells q p)
  where
    at_place : q ≡ p → x ≡ In queue t
    at_place e = let h = get_same spots p x within in let g = subst (λ (r : ℕ). IsIn (slice_set spots p x) r queue t)
        e is in some_same (sym h ∙ g)
      where
        some_same : Some x ≡ Some (In queue t) → x ≡ In queue t
        some_same e = cc

    by : ((nat_eq q p ≡ true) × (q ≡ p)) ⊎ ((nat_eq q p ≡ false) × (q ≢ p)) → ((q ≡ p) × (x ≡ In queue t))
        ⊎ ((q ≢ p) × IsIn spots q queue t)
    by (inl e) = inl (e.1, at_place e.1)
    by (inr e) = inr (e.1, sym (get_other spots p q x e.1) ∙ is)

-- whether two queues are one
queue_tells : (a b : Queue) → ((is_queue a b ≡ true) × (a ≡ b)) ⊎ ((is_queue a b ≡ false) × (a ≡ b → ⊥))
queue_tells Silent Silent = inl (refl, refl)
queue_tells Silent Inside = inr (refl, λ e. cc)
queue_tells Silent Unsent = inr (refl, λ e. cc)
queue_tells Silent Leaving = inr (refl, λ e. cc)
queue_tells Silent Delayed = inr (refl, λ e. cc)
queue_tells Inside Silent = inr (refl, λ e. cc)
queue_tells Inside Inside = inl (refl, refl)
queue_tells Inside Unsent = inr (refl, λ e. cc)
queue_tells Inside Leaving = inr (refl, λ e. cc)
queue_tells Inside Delayed = inr (refl, λ e. cc)
queue_tells Unsent Silent = inr (refl, λ e. cc)
queue_tells Unsent Inside = inr (refl, λ e. cc)
queue_tells Unsent Unsent = inl (refl, refl)
queue_tells Unsent Leaving = inr (refl, λ e. cc)
queue_tells Unsent Delayed = inr (refl, λ e. cc)
queue_tells Leaving Silent = inr (refl, λ e. cc)
queue_tells Leaving Inside = inr (refl, λ e. cc)
queue_tells Leaving Unsent = inr (refl, λ e. cc)
queue_tells Leaving Leaving = inl (refl, refl)
queue_tells Leaving Delayed = inr (refl, λ e. cc)
queue_tells Delayed Silent = inr (refl, λ e. cc)
queue_tells Delayed Inside = inr (refl, λ e. cc)
queue_tells Delayed Unsent = inr (refl, λ e. cc)
queue_tells Delayed Leaving = inr (refl, λ e. cc)
queue_tells Delayed Delayed = inl (refl, refl)

both : (x y : Bool) → x ≡ true → y ≡ true → (x && y) ≡ true
both x y p q = grind (arith, p, q)

not_first : (x y : Bool) → x ≡ false → (x && y) ≡ false
not_first x y p = grind (arith, p)

not_second : (x y : Bool) → y ≡ false → (x && y) ≡ false
not_second true y p = p
not_second false y p = refl

-- whether a queue and a turn are this one and this one
same_tells : (a b : Queue) (m n : ℕ) → (((is_queue a b && nat_eq m n) ≡ true) × (a ≡ b) × (m ≡ n))
    ⊎ (((is_queue a b && nat_eq m n) ≡ false) × (a ≡ b → m ≡ n → ⊥))
same_tells a b m n = by (queue_tells a b) (eqb_tells m n)
  where
    by : ((is_queue a b ≡ true) × (a ≡ b)) ⊎ ((is_queue a b ≡ false) × (a ≡ b → ⊥)) → ((nat_eq m n ≡ true) × (m ≡ n))
        ⊎ ((nat_eq m n ≡ false) × (m ≢ n)) →
        (((is_queue a b && nat_eq m n) ≡ true) × (a ≡ b) × (m ≡ n)) ⊎ (((is_queue a b && nat_eq m n) ≡ false)
        × (a ≡ b → m ≡ n → ⊥))
    by (inl p) (inl q) = inl (both (is_queue a b) (nat_eq m n) p.0 q.0, p.1, q.1)
    by (inl p) (inr q) = inr (not_second (is_queue a b) (nat_eq m n) q.0, λ _ e. q.1 e)
    by (inr p) q = inr (not_first (is_queue a b) (nat_eq m n) p.0, λ e _. p.1 e)

chosen : {A : Type 0} (b : Bool) (x y : A) → b ≡ true → cond b x y ≡ x
chosen true x y e = refl
chosen false x y e = absurd (apart e)
  where
    apart : false ≡ true → ⊥
    apart e = cc

other : {A : Type 0} (b : Bool) (x y : A) → b ≡ false → cond b x y ≡ y
other false x y e = refl
other true x y e = absurd (apart e)
  where
    apart : true ≡ false → ⊥
    apart e = cc

in_queue : (a b : Queue) (m n : ℕ) → In a m ≡ In b n → (a ≡ b) × (m ≡ n)
in_queue a b m n e = ((cc), (cc))

some_same : (m n : ℕ) → Some m ≡ Some n → m ≡ n
some_same m n e = cc

away_apart : (queue : Queue) (t : ℕ) → Away ≡ In queue t → ⊥
away_apart queue t e = cc

away_not_in : (queue : Queue) (t : ℕ) (x : Option Spot) → x ≡ Some Away → x ≡ Some (In queue t) → ⊥
away_not_in queue t x p q = cc

same_spot : (a b : Queue) (m n : ℕ) (x : Option Spot) → x ≡ Some (In a m) → x ≡ Some (In b n) → In a m ≡ In b n
same_spot a b m n x p q = cc

none_apart : (n : ℕ) → None ≡ Some n → ⊥
none_apart n e = cc

below_more : (t n : ℕ) → t < n → t < n + 1
below_more t n h = omega (arith, h)

now_below : (t n : ℕ) → n ≡ t → t < n + 1
now_below t n h = omega (arith, h)

not_now : (t n : ℕ) → t < n → n ≡ t → ⊥
not_now t n h e = absurd (omega (arith, h, e))

-- a place that was away stands in a queue
module _ (spots : List Spot) (at bt : Queue → ℕ → Option ℕ) (next p : ℕ) (queue : Queue) (away : IsAway spots p)
    (tells : AllTell spots at next)
    (put : (q : Queue) (t : ℕ) → bt q t ≡ cond (is_queue queue q && nat_eq next t) (Some p) (at q t)) (q : Queue) where
  within : p < length spots
  within = slice_get_within spots p Away away

  put_here : (t : ℕ) → queue ≡ q → next ≡ t → bt q t ≡ Some p
  put_here t e f = by (same_tells queue q next t)
    where
      by : (((is_queue queue q && nat_eq next t) ≡ true) × (queue ≡ q) × (next ≡ t))
          ⊎ (((is_queue queue q && nat_eq next t) ≡ false) × (queue ≡ q → next ≡ t → ⊥)) → bt q t ≡ Some p
      by (inl s) = put q t ∙ chosen (is_queue queue q && nat_eq next t) (Some p) (at q t) s.0
      by (inr s) = absurd (s.1 e f)

  put_told : (r t : ℕ) → IsIn (slice_set spots p (In queue next)) r q t → bt q t ≡ Some r
  put_told r t is = by (is_in_set spots p (In queue next) r q t within is)
    where
      before : IsIn spots r q t → bt q t ≡ Some r
      before was = here (same_tells queue q next t)
        where
          here : (((is_queue queue q && nat_eq next t) ≡ true) × (queue ≡ q) × (next ≡ t))
              ⊎ (((is_queue queue q && nat_eq next t) ≡ false) × (queue ≡ q → next ≡ t → ⊥)) → bt q t ≡ Some r
          here (inl s) = absurd (not_now t next ((tells q).past r t was) s.2)
          here (inr s) = put q t ∙ other (is_queue queue q && nat_eq next t) (Some p) (at q t) s.0
              ∙ (tells q).told r t was

      by : ((r ≡ p) × (In queue next ≡ In q t)) ⊎ ((r ≢ p) × IsIn spots r q t) → bt q t ≡ Some r
      by (inl e) = put_here t (in_queue queue q next t e.1).0 (in_queue queue q next t e.1).1 ∙ ap Some (sym e.0)
      by (inr e) = before e.1

  put_stands : (t r : ℕ) → bt q t ≡ Some r → IsIn (slice_set spots p (In queue next)) r q t
  put_stands t r is = by (same_tells queue q next t)
    where
      by : (((is_queue queue q && nat_eq next t) ≡ true) × (queue ≡ q) × (next ≡ t))
          ⊎ (((is_queue queue q && nat_eq next t) ≡ false) × (queue ≡ q → next ≡ t → ⊥)) →
          IsIn (slice_set spots p (In queue next)) r q t
      by (inl s) =
          let e = some_same p r (sym (chosen (is_queue queue q && nat_eq next t) (Some p) (at q t) s.0)
          ∙ sym (put q t) ∙ is) in
          subst (λ (x : Queue). IsIn (slice_set spots p (In queue next)) r x t) s.1
          (subst (λ (n : ℕ). IsIn (slice_set spots p (In queue next)) r queue n) s.2
          (subst (λ (n : ℕ). IsIn (slice_set spots p (In queue next)) n queue next) e
          (get_same spots p (In queue next) within)))
      by (inr s) =
          let was = (tells q).stands t r (sym (other (is_queue queue q && nat_eq next t) (Some p) (at q t) s.0)
          ∙ sym (put q t) ∙ is) in
          get_other spots p r (In queue next) (λ (e : r ≡ p). away_not_in q t (slice_get spots p) away
          (ap (slice_get spots) (sym e) ∙ was)) ∙ was

  put_past : (r t : ℕ) → IsIn (slice_set spots p (In queue next)) r q t → t < next + 1
  put_past r t is = by (is_in_set spots p (In queue next) r q t within is)
    where
      by : ((r ≡ p) × (In queue next ≡ In q t)) ⊎ ((r ≢ p) × IsIn spots r q t) → t < next + 1
      by (inl e) = now_below t next (in_queue queue q next t e.1).1
      by (inr e) = below_more t next ((tells q).past r t e.1)

  pub all_put : Tells (slice_set spots p (In queue next)) q (bt q) (next + 1)
  all_put = record { told = put_told; stands = put_stands; past = put_past }

-- a place that stood in a queue is away
module _ (spots : List Spot) (at bt : Queue → ℕ → Option ℕ) (next p turn : ℕ) (queue : Queue)
    (was_in : IsIn spots p queue turn) (tells : AllTell spots at next)
    (taken : (q : Queue) (t : ℕ) → bt q t ≡ cond (is_queue queue q && nat_eq turn t) None (at q t)) (q : Queue) where
  there : p < length spots
  there = slice_get_within spots p (In queue turn) was_in

  taken_before : (r t : ℕ) → IsIn (slice_set spots p Away) r q t → (r ≢ p) × IsIn spots r q t
  taken_before r t is = by (is_in_set spots p Away r q t there is)
    where
      by : ((r ≡ p) × (Away ≡ In q t)) ⊎ ((r ≢ p) × IsIn spots r q t) → (r ≢ p) × IsIn spots r q t
      by (inl e) = absurd (away_apart q t e.1)
      by (inr e) = e

  taken_told : (r t : ℕ) → IsIn (slice_set spots p Away) r q t → bt q t ≡ Some r
  taken_told r t is = by (taken_before r t is) (same_tells queue q turn t)
    where
      by : (r ≢ p) × IsIn spots r q t → (((is_queue queue q && nat_eq turn t) ≡ true) × (queue ≡ q) × (turn ≡ t))
          ⊎ (((is_queue queue q && nat_eq turn t) ≡ false) × (queue ≡ q → turn ≡ t → ⊥)) → bt q t ≡ Some r
      by e (inl s) =
          let own = (tells queue).told p turn was_in in
          let its = subst (λ (x : Queue). at x t ≡ Some r) (sym s.1) ((tells q).told r t e.1) in
          absurd (e.0 (some_same r p (sym its ∙ ap (at queue) (sym s.2) ∙ own)))
      by e (inr s) = taken q t ∙ other (is_queue queue q && nat_eq turn t) None (at q t) s.0 ∙ (tells q).told r t e.1

  taken_stands : (t r : ℕ) → bt q t ≡ Some r → IsIn (slice_set spots p Away) r q t
  taken_stands t r is = by (same_tells queue q turn t)
    where
      by : (((is_queue queue q && nat_eq turn t) ≡ true) × (queue ≡ q) × (turn ≡ t))
          ⊎ (((is_queue queue q && nat_eq turn t) ≡ false) × (queue ≡ q → turn ≡ t → ⊥)) →
          IsIn (slice_set spots p Away) r q t
      by (inl s) = absurd (none_apart r (sym (chosen (is_queue queue q && nat_eq turn t) None (at q t) s.0)
          ∙ sym (taken q t) ∙ is))
      by (inr s) =
          let was = (tells q).stands t r (sym (other (is_queue queue q && nat_eq turn t) None (at q t) s.0)
          ∙ sym (taken q t) ∙ is) in
          get_other spots p r Away
          (λ (e : r ≡ p). let same = in_queue queue q turn t (same_spot queue q turn t (slice_get spots p) was_in
          (ap (slice_get spots) (sym e) ∙ was)) in s.1 same.0 same.1)
          ∙ was

  taken_past : (r t : ℕ) → IsIn (slice_set spots p Away) r q t → t < next
  taken_past r t is = (tells q).past r t (taken_before r t is).1

  pub all_taken : Tells (slice_set spots p Away) q (bt q) next
  all_taken = record { told = taken_told; stands = taken_stands; past = taken_past }

-- the queues tell the same
pub all_same : (spots : List Spot) (at bt : Queue → ℕ → Option ℕ) (next : ℕ) → AllTell spots at next →
    ((q : Queue) (t : ℕ) → bt q t ≡ at q t) → AllTell spots bt next
all_same spots at bt next tells same q = record {
  told = λ p t is. same q t ∙ (tells q).told p t is;
  stands = λ t p is. (tells q).stands t p (sym (same q t) ∙ is);
  past = (tells q).past;
}

pub has_put : (spots : List Spot) (at : Queue → ℕ → Option ℕ) (next p : ℕ) (queue : Queue) → AllTell spots at next →
    IsAway spots p → HasPut spots p queue (slice_set spots p (In queue next))
has_put spots at next p queue tells away = record {
  turn = next;
  away = away;
  put = refl;
  last = λ q any t is.
      (tells any).past q t is;
}

pub longest : (spots : List Spot) (at : Queue → ℕ → Option ℕ) (next : ℕ) (queue : Queue) (found : Option ℕ) →
    AllTell spots at next → IfSome found (λ p. IsFirstAt (at queue) p) → IfSome found (λ p. IsLongest spots queue p)
longest spots at next queue None tells h = tt
longest spots at next queue (Some p) tells h = record {
  turn = h.turn;
  is_in = (tells queue).stands h.turn p h.is_at;
  longest = λ q t is. h.first t q ((tells queue).told q t is);
}

pub none_in : (spots : List Spot) (at : Queue → ℕ → Option ℕ) (next : ℕ) (queue : Queue) (found : Option ℕ) →
    AllTell spots at next → IfNone found ((t : ℕ) → at queue t ≡ None) → IfNone found (NoneIn spots queue)
none_in spots at next queue (Some p) tells h = tt
none_in spots at next queue None tells h = λ q t is. none_apart q (sym (h t) ∙ (tells queue).told q t is)
