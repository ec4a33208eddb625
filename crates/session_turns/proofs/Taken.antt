-- Whoever waits is taken in time, whatever is lined up and taken.
use Rattle.std.proofs.Common.{◌≡◌, ◌⊎◌, inl, inr, ℕ, ◌+◌, ◌-◌, ◌*◌, ◌/◌, ◌<◌, ◌≤◌, Bool, true, false, cond, nat_le, min, List, [], ◌∷◌, ◌++◌, length, drop, slice_get, Option, Some, None, refl, sym, ap, subst, ◌∙◌, arith, le-leb}
use Rattle.std.proofs.lemmas.Bool.{lt-leb, leb-true, leb-false, ltb-true, ltb-false}
use Rattle.session_turns.specs.declared.owing.Class.{Class}
use Rattle.session_turns.specs.declared.owing.Class.TheVariants.{First, Second, Third, Last}
use Rattle.session_turns.specs.declared.class_queues.Waiting.{Waiting}
use Rattle.session_turns.specs.declared.class_queues.ClassQueues.{ClassQueues}
use Rattle.session_turns.specs.Turning.{Queues, queue, put, no_queues, is_class, is_before, older, oldest, is_empty, least, TurnsValue, nobody, how_many_in, lined_up, chosen, next_one, taken_of, taken_if, TurnEvent, lines_up, takes, turned, turned_all, how_many_takes, Waits, up_to, up_to_in_all, EachIsTakenInTime, FirstOnesAreTakenSoon}
use Rattle.session_turns.specs.Queued.{queued}
use Rattle.session_turns.specs.private.Queued.{room_in, AreKept}

-- what holds of each queue holds after one is put
put_each : (P : Class → List Waiting → Type 0) (q : Queues) (k : Class) (ws : List Waiting) → P k ws →
    ((d : Class) → P d (queue q d)) → (d : Class) → P d (queue (put q k ws) d)
put_each P q First ws h each First = h
put_each P q First ws h each Second = each Second
put_each P q First ws h each Third = each Third
put_each P q First ws h each Last = each Last
put_each P q Second ws h each First = each First
put_each P q Second ws h each Second = h
put_each P q Second ws h each Third = each Third
put_each P q Second ws h each Last = each Last
put_each P q Third ws h each First = each First
put_each P q Third ws h each Second = each Second
put_each P q Third ws h each Third = h
put_each P q Third ws h each Last = each Last
put_each P q Last ws h each First = each First
put_each P q Last ws h each Second = each Second
put_each P q Last ws h each Third = each Third
put_each P q Last ws h each Last = h

put_length : (q : Queues) (k : Class) (ws : List Waiting) → how_many_in (put q k ws) + length (queue q k) ≡
    how_many_in q + length ws
put_length q First ws = omega arith
put_length q Second ws = omega arith
put_length q Third ws = omega arith
put_length q Last ws = omega arith

put_up_to : (t : ℕ) (q : Queues) (k : Class) (ws : List Waiting) → up_to_in_all t (put q k ws) + up_to t (queue q k) ≡
    up_to_in_all t q + up_to t ws
put_up_to t q First ws = omega arith
put_up_to t q Second ws = omega arith
put_up_to t q Third ws = omega arith
put_up_to t q Last ws = omega arith

-- a queue less by its first
length_drop : (ws : List Waiting) (w : Waiting) → slice_get ws 0 ≡ Some w → length ws ≡ length (drop 1 ws) + 1
length_drop [] w e = cc
length_drop (x ∷ xs) w e = omega arith

length_none : (ws : List Waiting) → slice_get ws 0 ≡ None → length ws ≡ 0
length_none [] e = refl
length_none (x ∷ xs) e = cc

length_drop_none : (ws : List Waiting) → slice_get ws 0 ≡ None → length (drop 1 ws) ≡ length ws
length_drop_none [] e = refl
length_drop_none (x ∷ xs) e = cc

up_to_drop : (t : ℕ) (ws : List Waiting) (w : Waiting) → slice_get ws 0 ≡ Some w → up_to t ws ≡ cond (nat_le w.turn t)
    1 0 + up_to t (drop 1 ws)
up_to_drop t [] w e = cc
up_to_drop t (x ∷ xs) w e = let f : x ≡ w = cc in ap (λ (y : Waiting). cond (nat_le y.turn t) 1 0 + up_to t xs) f

waits_drop : (t : ℕ) (ws : List Waiting) → Waits (drop 1 ws) t → Waits ws t
waits_drop t [] h = h
waits_drop t (x ∷ xs) h = inr h

-- of two classes the older one's first is no later than either's
abbrev Below : Option Waiting → Option Waiting → Type 0
Below o None = Unit {0}
Below None (Some x) = ⊥
Below (Some w) (Some x) = w.turn ≤ x.turn

below_same : (o : Option Waiting) → Below o o
below_same None = tt
below_same (Some w) = omega arith

below_then : (a b d : Option Waiting) → Below a b → Below b d → Below a d
below_then a b None h k = tt
below_then a None (Some x) h k = absurd k
below_then None (Some y) (Some x) h k = absurd h
below_then (Some w) (Some y) (Some x) h k = omega arith

before_below : (a b : Option Waiting) → is_before b a ≡ true → Below b a
before_below a None e = cc
before_below None (Some y) e = tt
before_below (Some x) (Some y) e = let h = ltb-true y.turn x.turn e in omega arith

not_before_below : (a b : Option Waiting) → is_before b a ≡ false → Below a b
not_before_below a None e = tt
not_before_below None (Some y) e = cc
not_before_below (Some x) (Some y) e = let h = ltb-false y.turn x.turn e in omega arith

module _ (g : Class → Option Waiting) where
  older_by : (k d : Class) (b : Bool) → is_before (g d) (g k) ≡ b → Below (g (cond b d k)) (g k)
      × Below (g (cond b d k)) (g d)
  older_by k d true e = (before_below (g k) (g d) e, below_same (g d))
  older_by k d false e = (below_same (g k), not_before_below (g k) (g d) e)

older_below : (q : Queues) (k d : Class) → Below (slice_get (queue q (older q k d)) 0) (slice_get (queue q k) 0)
    × Below (slice_get (queue q (older q k d)) 0) (slice_get (queue q d) 0)
older_below q k d = older_by (λ (e : Class). slice_get (queue q e) 0) k d (is_before (slice_get (queue q d) 0)
    (slice_get (queue q k) 0)) refl

oldest_below : (q : Queues) (k : Class) → Below (slice_get (queue q (oldest q)) 0) (slice_get (queue q k) 0)
oldest_below q First = below_then _ _ _ (older_below q (older q First Second) (older q Third Last)).0
    (older_below q First Second).0
oldest_below q Second = below_then _ _ _ (older_below q (older q First Second) (older q Third Last)).0
    (older_below q First Second).1
oldest_below q Third = below_then _ _ _ (older_below q (older q First Second) (older q Third Last)).1
    (older_below q Third Last).0
oldest_below q Last = below_then _ _ _ (older_below q (older q First Second) (older q Third Last)).1
    (older_below q Third Last).1

-- where the class that is chosen is empty, all are
below_none : (o p : Option Waiting) → Below o p → o ≡ None → p ≡ None
below_none o None h e = refl
below_none None (Some x) h e = absurd h
below_none (Some w) (Some x) h e = cc

none_if_each : (q : Queues) → ((k : Class) → slice_get (queue q k) 0 ≡ None) → how_many_in q ≡ 0
none_if_each q each =
    let a = length_none q.first (each First) in
    let b = length_none q.second (each Second) in
    let d = length_none q.third (each Third) in
    let e = length_none q.last (each Last) in
    omega arith

oldest_none : (q : Queues) → slice_get (queue q (oldest q)) 0 ≡ None → how_many_in q ≡ 0
oldest_none q e = none_if_each q (λ k. below_none _ _ (oldest_below q k) e)

least_lists : (f s t l : List Waiting) → slice_get (queue (record { first = f; second = s; third = t; last = l })
    (least (record { first = f; second = s; third = t; last = l }))) 0 ≡ None →
    how_many_in (record { first = f; second = s; third = t; last = l }) ≡ 0
least_lists (x ∷ xs) s t l e = cc
least_lists [] (x ∷ xs) t l e = cc
least_lists [] [] (x ∷ xs) l e = cc
least_lists [] [] [] l e = let h = length_none l e in omega arith

least_none : (q : Queues) → slice_get (queue q (least q)) 0 ≡ None → how_many_in q ≡ 0
least_none q e = least_lists q.first q.second q.third q.last e

chosen_none : (q : Queues) (b : Bool) → slice_get (queue q (cond b (oldest q) (least q))) 0 ≡ None → how_many_in q ≡ 0
chosen_none q true e = oldest_none q e
chosen_none q false e = least_none q e

pub chosen_oldest : (passed : ℕ) (class old low found : Class) → 7 ≤ passed → class ≡ found → found ≡ old →
    class ≡ cond (nat_le 7 passed) old low
chosen_oldest passed class old low found h e f = rw (le-leb 7 passed h) (e ∙ f)

pub chosen_least : (passed : ℕ) (class old low found : Class) → passed < 7 → class ≡ found → found ≡ low →
    class ≡ cond (nat_le 7 passed) old low
chosen_least passed class old low found h e f = rw (lt-leb 7 passed h) (e ∙ f)

pub nobody_waits : (q : Queues) (passed : ℕ) (class : Class) → class ≡ cond (nat_le 7 passed) (oldest q) (least q) →
    slice_get (queue q class) 0 ≡ None → how_many_in q ≡ 0
nobody_waits q passed class e f = chosen_none q (nat_le 7 passed) (ap (λ (k : Class). slice_get (queue q k) 0) (sym e)
    ∙ f)

-- what is kept, after the first of a class was taken, or none was there
pub kept_none : (q r : ClassQueues) (class : Class) (passed waiting room : ℕ) → AreKept q passed waiting room →
    slice_get (queue (queued q) class) 0 ≡ None →
    queued r ≡ put (queued q) class (drop 1 (queue (queued q) class)) →
    ((any : Class) → room_in r any ≡ room_in q any) → AreKept r passed waiting room
kept_none q r class passed waiting room kept none rest roomy =
    let a = put_length (queued q) class (drop 1 (queue (queued q) class)) in
    let b = length_drop_none (queue (queued q) class) none in
    let d = ap how_many_in rest in
    let k = kept.counted in
    let i = kept.within in
    record {
      counted = omega arith;
      within = i;
      roomy = λ any. (let e = roomy any in let f = kept.roomy any in omega
          arith);
      at_most = kept.at_most;
    }

pub kept_some : (q r : ClassQueues) (class : Class) (w : Waiting) (passed then waiting room : ℕ) →
    AreKept q passed waiting room → slice_get (queue (queued q) class) 0 ≡ Some w →
    queued r ≡ put (queued q) class (drop 1 (queue (queued q) class)) →
    ((any : Class) → room_in r any ≡ room_in q any) → then ≤ 7 → AreKept r then (waiting - 1) room
kept_some q r class w passed then waiting room kept some rest roomy few =
    let a = put_length (queued q) class (drop 1 (queue (queued q) class)) in
    let b = length_drop (queue (queued q) class) w some in
    let d = ap how_many_in rest in
    let k = kept.counted in
    let i = kept.within in
    record {
      counted = omega arith;
      within = omega arith;
      roomy = λ any. (let e = roomy any in let f = kept.roomy any
          in omega arith);
      at_most = few;
    }

pub same_class : (k d : Class) → k ≡ d → is_class k d ≡ true
same_class First First e = refl
same_class Second Second e = refl
same_class Third Third e = refl
same_class Last Last e = refl
same_class First Second e = cc
same_class First Third e = cc
same_class First Last e = cc
same_class Second First e = cc
same_class Second Third e = cc
same_class Second Last e = cc
same_class Third First e = cc
same_class Third Second e = cc
same_class Third Last e = cc
same_class Last First e = cc
same_class Last Second e = cc
same_class Last Third e = cc

class_same : (k d : Class) → is_class k d ≡ true → k ≡ d
class_same First First e = refl
class_same First Second e = cc
class_same First Third e = cc
class_same First Last e = cc
class_same Second First e = cc
class_same Second Second e = refl
class_same Second Third e = cc
class_same Second Last e = cc
class_same Third First e = cc
class_same Third Second e = cc
class_same Third Third e = refl
class_same Third Last e = cc
class_same Last First e = cc
class_same Last Second e = cc
class_same Last Third e = cc
class_same Last Last e = refl

-- turns of a queue ascend, from one number up to another
abbrev Ascends : ℕ → List Waiting → ℕ → Type 0
Ascends low [] high = low ≤ high
Ascends low (w ∷ ws) high = (low ≤ w.turn) × Ascends w.turn ws high

asc_more : (low : ℕ) (ws : List Waiting) (high more : ℕ) → Ascends low ws high → high ≤ more → Ascends low ws more
asc_more low [] high more h k = omega arith
asc_more low (w ∷ ws) high more h k = (h.0, asc_more w.turn ws high more h.1 k)

asc_push : (low : ℕ) (ws : List Waiting) (high more p : ℕ) → Ascends low ws high → high ≤ more →
    Ascends low (ws ++ record { turn = high; place = p } ∷ []) more
asc_push low [] high more p h k = (h, k)
asc_push low (w ∷ ws) high more p h k = (h.0, asc_push w.turn ws high more p h.1 k)

asc_less : (less low : ℕ) (ws : List Waiting) (high : ℕ) → less ≤ low → Ascends low ws high → Ascends less ws high
asc_less less low [] high k h = omega arith
asc_less less low (w ∷ ws) high k h = let i = h.0 in (omega arith, h.1)

asc_drop : (low : ℕ) (ws : List Waiting) (high : ℕ) → Ascends low ws high → Ascends low (drop 1 ws) high
asc_drop low [] high h = h
asc_drop low (w ∷ ws) high h = asc_less low w.turn ws high h.0 h.1

waits_from : (low : ℕ) (ws : List Waiting) (high t : ℕ) → Ascends low ws high → Waits ws t → low ≤ t
waits_from low [] high t h k = absurd k
waits_from low (w ∷ ws) high t h (inl e) = let i = h.0 in omega arith
waits_from low (w ∷ ws) high t h (inr k) = let i = h.0 in let j = waits_from w.turn ws high t h.1 k in omega arith

-- the first of a queue in which one waits is no later
first_no_later : (low : ℕ) (ws : List Waiting) (high t : ℕ) (o : Option Waiting) → Ascends low ws high → Waits ws t →
    Below o (slice_get ws 0) → (w : Waiting) → o ≡ Some w → w.turn ≤ t
first_no_later low [] high t o h k b w e = absurd k
first_no_later low (x ∷ xs) high t None h k b w e = cc
first_no_later low (x ∷ xs) high t (Some y) h k b w e =
    let i = waits_from x.turn (x ∷ xs) high t (omega arith, h.1) k in
    let f : y ≡ w = cc in
    let j : y.turn ≤ t = omega arith in
    subst (λ (z : Waiting). z.turn ≤ t) f j

-- turns are in order, below the next one
record IsOrdered (v : TurnsValue) : Type 0 where
  each : (k : Class) → Ascends 0 (queue v.queues k) v.next
  below : (k : Class) (t : ℕ) → Waits (queue v.queues k) t → min (t + 1) 18446744073709551615 ≤ v.next
  within : v.next ≤ 18446744073709551615
  at_most : v.passed ≤ 7

up_to_push : (t : ℕ) (ws : List Waiting) (n p : ℕ) → t < n → up_to t (ws ++ record { turn = n; place = p } ∷ []) ≡
    up_to t ws
up_to_push t [] n p h = by (nat_le n t) refl
  where
    by : (b : Bool) → nat_le n t ≡ b → cond (nat_le n t) 1 0 + 0 ≡ 0
    by true e = let k = leb-true n t e in absurd (omega arith)
    by false e = rw e refl
up_to_push t (w ∷ ws) n p h = let k = up_to_push t ws n p h in omega arith

waits_pushed : (t : ℕ) (ws : List Waiting) (n p : ℕ) → Waits (ws ++ record { turn = n; place = p } ∷ []) t → (n ≡ t)
    ⊎ Waits ws t
waits_pushed t [] n p (inl e) = inl e
waits_pushed t [] n p (inr k) = absurd k
waits_pushed t (w ∷ ws) n p (inl e) = inr (inl e)
waits_pushed t (w ∷ ws) n p (inr k) = by (waits_pushed t ws n p k)
  where
    by : (n ≡ t) ⊎ Waits ws t → (n ≡ t) ⊎ Waits (w ∷ ws) t
    by (inl e) = inl e
    by (inr h) = inr (inr h)

waits_push : (t : ℕ) (ws : List Waiting) (n p : ℕ) → t < n → Waits (ws ++ record { turn = n; place = p } ∷ []) t →
    Waits ws t
waits_push t ws n p h k = by (waits_pushed t ws n p k)
  where
    by : (n ≡ t) ⊎ Waits ws t → Waits ws t
    by (inl e) = absurd (omega arith)
    by (inr j) = j

waits_long : (t : ℕ) (ws : List Waiting) → Waits ws t → 1 ≤ length ws
waits_long t [] h = absurd h
waits_long t (w ∷ ws) h = omega arith

long_in_all : (q : Queues) (k : Class) → length (queue q k) ≤ how_many_in q
long_in_all q First = omega arith
long_in_all q Second = omega arith
long_in_all q Third = omega arith
long_in_all q Last = omega arith

waits_some : (t : ℕ) (ws : List Waiting) → Waits ws t → slice_get ws 0 ≡ None → ⊥
waits_some t [] h e = h
waits_some t (w ∷ ws) h e = cc

waits_counted : (t : ℕ) (ws : List Waiting) → Waits ws t → 1 ≤ up_to t ws
waits_counted t [] h = absurd h
waits_counted t (w ∷ ws) (inl e) = let f : nat_le w.turn t ≡ true = le-leb w.turn t (omega arith) in rw f (omega arith)
waits_counted t (w ∷ ws) (inr k) = let i = waits_counted t ws k in omega arith

counted_in_all : (t : ℕ) (q : Queues) (k : Class) → up_to t (queue q k) ≤ up_to_in_all t q
counted_in_all t q First = omega arith
counted_in_all t q Second = omega arith
counted_in_all t q Third = omega arith
counted_in_all t q Last = omega arith

-- after one lined up
ordered_line_up : (v : TurnsValue) (p : ℕ) (k : Class) → IsOrdered v → IsOrdered (lined_up v p k)
ordered_line_up v p k o =
    let w = o.within in
    let grows : v.next ≤ min (v.next + 1) 18446744073709551615 = omega arith in
    record {
      each = put_each (λ d ws. Ascends 0 ws (min (v.next + 1) 18446744073709551615)) v.queues k
          (queue v.queues k ++ record { turn = v.next; place = p } ∷ [])
          (asc_push 0 (queue v.queues k) v.next (min (v.next + 1) 18446744073709551615) p (o.each k) grows)
          (λ d. asc_more 0 (queue v.queues d) v.next (min (v.next + 1) 18446744073709551615) (o.each d) grows);
      below = put_each (λ d ws. (t : ℕ) → Waits ws t → min (t + 1) 18446744073709551615 ≤ min (v.next + 1)
          18446744073709551615) v.queues k
          (queue v.queues k ++ record { turn = v.next; place = p } ∷ [])
          (λ t h. below_pushed t (waits_pushed t (queue v.queues k) v.next p h))
          (λ d t h. (let i = o.below d t h in omega arith));
      within = omega arith;
      at_most = o.at_most;
    }
  where
    below_pushed : (t : ℕ) → (v.next ≡ t) ⊎ Waits (queue v.queues k) t → min (t + 1) 18446744073709551615 ≤ min
        (v.next + 1) 18446744073709551615
    below_pushed t (inl e) = omega arith
    below_pushed t (inr h) = let i = o.below k t h in omega arith

-- after the first of a class was taken
ordered_taken : (v : TurnsValue) (k : Class) → IsOrdered v → cond (is_class k (oldest v.queues)) 0 (v.passed + 1) ≤
    7 → IsOrdered (taken_of k v)
ordered_taken v k o few = record {
  each = put_each (λ d ws. Ascends 0 ws v.next) v.queues k (drop 1 (queue v.queues k)) (asc_drop 0 (queue v.queues k)
      v.next (o.each k)) o.each;
  below = put_each (λ d ws. (t : ℕ) → Waits ws t → min (t + 1) 18446744073709551615 ≤ v.next) v.queues k
      (drop 1 (queue v.queues k))
      (λ t h. o.below k t (waits_drop t (queue v.queues k) h)) o.below;
  within = o.within;
  at_most = few;
}

few_by : (passed : ℕ) (old low : Class) (b : Bool) → passed ≤ 7 → nat_le 7 passed ≡ b →
    cond (is_class (cond b old low) old) 0 (passed + 1) ≤ 7
few_by passed old low true h e = rw (same_class old old refl) (omega arith)
few_by passed old low false h e = by (is_class low old)
  where
    by : (b : Bool) → cond b 0 (passed + 1) ≤ 7
    by true = omega arith
    by false = let k = leb-false 7 passed e in omega arith

few_passed : (v : TurnsValue) → v.passed ≤ 7 → cond (is_class (chosen v) (oldest v.queues)) 0 (v.passed + 1) ≤ 7
few_passed v h = few_by v.passed (oldest v.queues) (least v.queues) (nat_le 7 v.passed) h refl

ordered_if : (v : TurnsValue) (o : Option Waiting) → IsOrdered v → IsOrdered (taken_if o v)
ordered_if v None h = h
ordered_if v (Some w) h = ordered_taken v (chosen v) h (few_passed v h.at_most)

ordered_turned : (e : TurnEvent) (v : TurnsValue) → IsOrdered v → IsOrdered (turned e v)
ordered_turned (lines_up p k) v h = ordered_line_up v p k h
ordered_turned takes v h = ordered_if v (next_one v) h

ordered_all : (es : List TurnEvent) (v : TurnsValue) → IsOrdered v → IsOrdered (turned_all es v)
ordered_all [] v h = h
ordered_all (e ∷ es) v h = ordered_all es (turned e v) (ordered_turned e v h)

ordered_nobody : (room : ℕ) → IsOrdered (nobody room)
ordered_nobody room = record { each = at; below = none; within = omega arith; at_most = omega arith }
  where
    none : (k : Class) (t : ℕ) → Waits (queue no_queues k) t → min (t + 1) 18446744073709551615 ≤ 0
    none First t h = absurd h
    none Second t h = absurd h
    none Third t h = absurd h
    none Last t h = absurd h

    at : (k : Class) → Ascends 0 (queue no_queues k) 0
    at First = omega arith
    at Second = omega arith
    at Third = omega arith
    at Last = omega arith

-- who waits now and lined up before waited before
next_if : (v : TurnsValue) (o : Option Waiting) → (taken_if o v).next ≡ v.next
next_if v None = refl
next_if v (Some w) = refl

next_after : (t : ℕ) (e : TurnEvent) (v : TurnsValue) → t < 18446744073709551615 → t < v.next → t < (turned e v).next
next_after t (lines_up p k) v h i = omega arith
next_after t takes v h i = let e = next_if v (next_one v) in omega arith

waited_if : (t : ℕ) (v : TurnsValue) (o : Option Waiting) (d : Class) → Waits (queue (taken_if o v).queues d) t →
    Waits (queue v.queues d) t
waited_if t v None d h = h
waited_if t v (Some w) d h =
    put_each (λ k ws. Waits ws t → Waits (queue v.queues k) t) v.queues (chosen v)
    (drop 1 (queue v.queues (chosen v))) (waits_drop t (queue v.queues (chosen v))) (λ k i. i) d h

waited : (t : ℕ) (e : TurnEvent) (v : TurnsValue) (d : Class) → t < v.next → Waits (queue (turned e v).queues d) t →
    Waits (queue v.queues d) t
waited t (lines_up p k) v d i h =
    put_each (λ k ws. Waits ws t → Waits (queue v.queues k) t) v.queues k
    (queue v.queues k ++ record { turn = v.next; place = p } ∷ []) (waits_push t (queue v.queues k) v.next p i)
    (λ k j. j) d h
waited t takes v d i h = waited_if t v (next_one v) d h

waited_all : (t : ℕ) (es : List TurnEvent) (v : TurnsValue) (d : Class) → t < 18446744073709551615 → t < v.next →
    Waits (queue (turned_all es v).queues d) t → Waits (queue v.queues d) t
waited_all t [] v d m i h = h
waited_all t (e ∷ es) v d m i h = waited t e v d i (waited_all t es (turned e v) d m (next_after t e v m i) h)

-- how many are no later, after one lined up and after one was taken
up_to_line_up : (t : ℕ) (v : TurnsValue) (p : ℕ) (k : Class) → t < v.next → up_to_in_all t (lined_up v p k).queues ≡
    up_to_in_all t v.queues
up_to_line_up t v p k i =
    let a = put_up_to t v.queues k (queue v.queues k ++ record { turn = v.next; place = p } ∷ []) in
    let b = up_to_push t (queue v.queues k) v.next p i in
    omega arith

up_to_first : (t : ℕ) (v : TurnsValue) (p : ℕ) (k : Class) → t < v.next → up_to t (lined_up v p k).queues.first ≡
    up_to t v.queues.first
up_to_first t v p First i = up_to_push t v.queues.first v.next p i
up_to_first t v p Second i = refl
up_to_first t v p Third i = refl
up_to_first t v p Last i = refl

-- one that is no later was taken
less_by_one : (t : ℕ) (q : Queues) (k : Class) (w : Waiting) → slice_get (queue q k) 0 ≡ Some w → w.turn ≤ t →
    up_to_in_all t (put q k (drop 1 (queue q k))) + 1 ≡ up_to_in_all t q
less_by_one t q k w e h =
    let a = put_up_to t q k (drop 1 (queue q k)) in
    let b : up_to t (queue q k) ≡ 1 + up_to t (drop 1 (queue q k)) = up_to_drop t (queue q k) w e
    ∙ ap (λ (x : Bool). cond x 1 0 + up_to t (drop 1 (queue q k))) (le-leb w.turn t h) in
    omega arith

no_more : (t : ℕ) (q : Queues) (k : Class) (w : Waiting) → slice_get (queue q k) 0 ≡ Some w →
    up_to_in_all t (put q k (drop 1 (queue q k))) ≤ up_to_in_all t q
no_more t q k w e =
    let a = put_up_to t q k (drop 1 (queue q k)) in
    let b = up_to_drop t (queue q k) w e in
    omega arith

-- a take brings whoever waits nearer to its turn
nearer : (t n : ℕ) (v : TurnsValue) (d : Class) (w : Waiting) → IsOrdered v → Waits (queue v.queues d) t →
    slice_get (queue v.queues (chosen v)) 0 ≡ Some w →
    n + (taken_of (chosen v) v).passed < 8 * up_to_in_all t (taken_of (chosen v) v).queues →
    n + 1 + v.passed < 8 * up_to_in_all t v.queues
nearer t n v d w o waits some h = by (is_class (chosen v) (oldest v.queues)) refl h
  where
    by : (b : Bool) → is_class (chosen v) (oldest v.queues) ≡ b → n + cond b 0 (v.passed + 1) < 8 * up_to_in_all t
        (put v.queues (chosen v) (drop 1 (queue v.queues (chosen v)))) →
        n + 1 + v.passed < 8 * up_to_in_all t v.queues
    by true e less =
        let k : slice_get (queue v.queues (oldest v.queues)) 0 ≡ Some w =
        ap (λ (x : Class). slice_get (queue v.queues x) 0) (sym (class_same (chosen v) (oldest v.queues) e))
        ∙ some in
        let turn : w.turn ≤ t = first_no_later 0 (queue v.queues d) v.next t
        (slice_get (queue v.queues (oldest v.queues)) 0) (o.each d) waits (oldest_below v.queues d) w k in
        let one = less_by_one t v.queues (chosen v) w some turn in
        let few = o.at_most in
        omega arith
    by false e less = let more = no_more t v.queues (chosen v) w some in omega arith

module _ (t : ℕ) (d : Class) (es : List TurnEvent) (m : t < 18446744073709551615)
    (then : (u : TurnsValue) → t < u.next → IsOrdered u → Waits (queue (turned_all es u).queues d) t →
    how_many_takes es + u.passed < 8 * up_to_in_all t u.queues) where
  taking : (v : TurnsValue) (next : Option Waiting) → next_one v ≡ next → t < v.next → IsOrdered v →
      Waits (queue (turned_all es (taken_if next v)).queues d) t →
      how_many_takes es + 1 + v.passed < 8 * up_to_in_all t v.queues
  taking v None e i o h =
      let a = waits_long t (queue v.queues d) (waited_all t es v d m i h) in
      let b = long_in_all v.queues d in
      let f = nobody_waits v.queues v.passed (chosen v) refl e in
      absurd (omega arith)
  taking v (Some w) e i o h =
      let waits = waited_if t v (Some w) d (waited_all t es (taken_of (chosen v) v) d m i h) in
      nearer t (how_many_takes es) v d w o waits e (then (taken_of (chosen v) v) i
      (ordered_taken v (chosen v) o (few_passed v o.at_most)) h)

in_time : (es : List TurnEvent) (v : TurnsValue) (d : Class) (t : ℕ) → t < 18446744073709551615 → t < v.next →
    IsOrdered v → Waits (queue (turned_all es v).queues d) t →
    how_many_takes es + v.passed < 8 * up_to_in_all t v.queues
in_time [] v d t m i o h =
    let a = waits_counted t (queue v.queues d) h in
    let b = counted_in_all t v.queues d in
    let few = o.at_most in
    omega arith
in_time (lines_up p k ∷ es) v d t m i o h =
    let r = in_time es (lined_up v p k) d t m (next_after t (lines_up p k) v m i) (ordered_line_up v p k o) h in
    let e = up_to_line_up t v p k i in
    omega arith
in_time (takes ∷ es) v d t m i o h = taking t d es m (λ u j q k. in_time es u d t m j q k) v (next_one v) refl i o h

pub each_law : EachIsTakenInTime
each_law room before after class turn m h k =
    let o = ordered_all before (nobody room) (ordered_nobody room) in
    let b = o.below class turn h in
    let r = in_time after (turned_all before (nobody room)) class turn m (omega arith) o k in
    omega arith

-- one of the first class
least_first : (t : ℕ) (ws : List Waiting) (rest : Class) → Waits ws t → cond (is_empty ws) rest First ≡ First
least_first t [] rest h = absurd h
least_first t (w ∷ ws) rest h = refl

up_to_less : (t : ℕ) (ws : List Waiting) → up_to t (drop 1 ws) ≤ up_to t ws
up_to_less t [] = omega arith
up_to_less t (w ∷ ws) = omega arith

first_no_more : (t : ℕ) (q : Queues) (k : Class) → up_to t (put q k (drop 1 (queue q k))).first ≤ up_to t q.first
first_no_more t q First = up_to_less t q.first
first_no_more t q Second = omega arith
first_no_more t q Third = omega arith
first_no_more t q Last = omega arith

abbrev NearTo : ℕ → ℕ → TurnsValue → Type 0
NearTo t n v = 7 * n + 8 ≤ 8 * up_to t v.queues.first + v.passed

sooner_oldest : (t n : ℕ) (v : TurnsValue) → 7 ≤ v.passed → NearTo t n (taken_of (oldest v.queues) v) →
    NearTo t (n + 1) v
sooner_oldest t n v few h =
    let more = first_no_more t v.queues (oldest v.queues) in
    let less : 7 * n + 8 ≤ 8 * up_to t (put v.queues (oldest v.queues)
    (drop 1 (queue v.queues (oldest v.queues)))).first + cond true 0 (v.passed + 1) =
    rw (same_class (oldest v.queues) (oldest v.queues) refl) at h in
    omega arith

sooner_first : (t n : ℕ) (v : TurnsValue) (w : Waiting) → slice_get v.queues.first 0 ≡ Some w → w.turn ≤ t →
    NearTo t n (taken_of First v) → NearTo t (n + 1) v
sooner_first t n v w some turn h =
    let one : up_to t v.queues.first ≡ 1 + up_to t (drop 1 v.queues.first) =
    up_to_drop t v.queues.first w some ∙ ap (λ (x : Bool). cond x 1 0 + up_to t (drop 1 v.queues.first))
    (le-leb w.turn t turn) in
    by (is_class First (oldest v.queues)) h one
  where
    by : (b : Bool) → 7 * n + 8 ≤ 8 * up_to t (drop 1 v.queues.first) + cond b 0 (v.passed + 1) →
        up_to t v.queues.first ≡ 1 + up_to t (drop 1 v.queues.first) → NearTo t (n + 1) v
    by true less one = omega arith
    by false less one = omega arith

sooner : (t n : ℕ) (v : TurnsValue) (w : Waiting) → IsOrdered v → Waits v.queues.first t →
    slice_get (queue v.queues (chosen v)) 0 ≡ Some w → NearTo t n (taken_of (chosen v) v) → NearTo t (n + 1) v
sooner t n v w o waits some h = by (nat_le 7 v.passed) refl
  where
    by : (b : Bool) → nat_le 7 v.passed ≡ b → NearTo t (n + 1) v
    by true e =
        let is : chosen v ≡ oldest v.queues = ap (λ (x : Bool). cond x (oldest v.queues) (least v.queues)) e in
        sooner_oldest t n v (leb-true 7 v.passed e) (subst (λ (k : Class). NearTo t n (taken_of k v)) is h)
    by false e =
        let is : chosen v ≡ First = ap (λ (x : Bool). cond x (oldest v.queues) (least v.queues)) e
        ∙ least_first t v.queues.first _ waits in
        let first : slice_get v.queues.first 0 ≡ Some w = ap (λ (k : Class). slice_get (queue v.queues k) 0) (sym is)
        ∙ some in
        let turn : w.turn ≤ t = first_no_later 0 v.queues.first v.next t (slice_get v.queues.first 0) (o.each First)
        waits (below_same (slice_get v.queues.first 0)) w first in
        sooner_first t n v w first turn (subst (λ (k : Class). NearTo t n (taken_of k v)) is h)

module _ (t : ℕ) (es : List TurnEvent) (m : t < 18446744073709551615)
    (then : (u : TurnsValue) → t < u.next → IsOrdered u → Waits (turned_all es u).queues.first t →
    NearTo t (how_many_takes es) u) where
  taking_soon : (v : TurnsValue) (next : Option Waiting) → next_one v ≡ next → t < v.next → IsOrdered v →
      Waits (turned_all es (taken_if next v)).queues.first t →
      NearTo t (how_many_takes es + 1) v
  taking_soon v None e i o h =
      let a = waits_long t v.queues.first (waited_all t es v First m i h) in
      let b = long_in_all v.queues First in
      let f = nobody_waits v.queues v.passed (chosen v) refl e in
      absurd (omega arith)
  taking_soon v (Some w) e i o h =
      let waits : Waits v.queues.first t = waited_if t v (Some w) First (waited_all t es (taken_of (chosen v) v) First
      m i h) in
      sooner t (how_many_takes es) v w o waits e (then (taken_of (chosen v) v) i
      (ordered_taken v (chosen v) o (few_passed v o.at_most)) h)

soon : (es : List TurnEvent) (v : TurnsValue) (t : ℕ) → t < 18446744073709551615 → t < v.next → IsOrdered v →
    Waits (turned_all es v).queues.first t → NearTo t (how_many_takes es) v
soon [] v t m i o h = let a = waits_counted t v.queues.first h in omega arith
soon (lines_up p k ∷ es) v t m i o h =
    let r = soon es (lined_up v p k) t m (next_after t (lines_up p k) v m i) (ordered_line_up v p k o) h in
    let e = up_to_first t v p k i in
    omega arith
soon (takes ∷ es) v t m i o h = taking_soon t es m (λ u j q k. soon es u t m j q k) v (next_one v) refl i o h

-- the bound in whole numbers
whole : (n j p : ℕ) → 7 * n + 8 ≤ 8 * j + p → p ≤ 7 → n < j + (j + 6) / 7
whole n j p h few = omega arith

pub first_law : FirstOnesAreTakenSoon
first_law room before after turn m h k =
    let o = ordered_all before (nobody room) (ordered_nobody room) in
    let b = o.below First turn h in
    let r = soon after (turned_all before (nobody room)) turn m (omega arith) o k in
    whole (how_many_takes after) (up_to turn (turned_all before (nobody room)).queues.first)
    (turned_all before (nobody room)).passed r o.at_most
