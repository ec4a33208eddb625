-- The places of those that wait for a seat, after one lined up, and after one was taken.
use Rattle.std.proofs.Common.{◌≡◌, ℕ, ◌+◌, ◌<◌, List, [], ◌∷◌, ◌++◌, length, drop, slice_get, cond, Option, Some, None, refl, ap, ◌∙◌, arith, length-append}
use Rattle.std.specs.Prelude.{nat_eq, slice_set}
use Rattle.session_turns.specs.declared.owing.Class.{Class}
use Rattle.session_turns.specs.declared.owing.Class.TheVariants.{First, Second, Third, Last}
use Rattle.session_turns.specs.declared.class_queues.Waiting.{Waiting}
use Rattle.session_turns.specs.Turning.{Queues, queue, put, how_many_in, TurnsValue, lined_up, chosen, next_one, place_of, next_place, taken_if, taken}
use Rattle.session_table.specs.private.Stands.{times, places_of, places_in}
use Rattle.session_table.specs.Tabling.{Tabled, without}
use Rattle.session_table.specs.declared.pooled.PooledSession.{PooledSession}
use Rattle.session_table.specs.declared.place_state.PlaceState.TheVariants.{Away}
use Rattle.session_table.proofs.Standing.{same_number, times_append}

-- how often a place is in all queues
times_in : (p : ℕ) (q : Queues) → times p (places_in q) ≡ times p (places_of q.first) + times p (places_of q.second) +
    times p (places_of q.third) + times p (places_of q.last)
times_in p q =
    let a : times p (places_in q) ≡ times p (places_of q.first) + times p
    (places_of q.second ++ (places_of q.third ++ places_of q.last)) =
    times_append p (places_of q.first) (places_of q.second ++ (places_of q.third ++ places_of q.last)) in
    let b : times p (places_of q.second ++ (places_of q.third ++ places_of q.last)) ≡ times p (places_of q.second) +
    times p (places_of q.third ++ places_of q.last) =
    times_append p (places_of q.second) (places_of q.third ++ places_of q.last) in
    let d = times_append p (places_of q.third) (places_of q.last) in
    omega arith

put_times : (p : ℕ) (q : Queues) (k : Class) (ws : List Waiting) → times p (places_in (put q k ws)) + times p
    (places_of (queue q k)) ≡ times p (places_in q) + times p (places_of ws)
put_times p q First ws = let a = times_in p q in let b = times_in p (put q First ws) in omega arith
put_times p q Second ws = let a = times_in p q in let b = times_in p (put q Second ws) in omega arith
put_times p q Third ws = let a = times_in p q in let b = times_in p (put q Third ws) in omega arith
put_times p q Last ws = let a = times_in p q in let b = times_in p (put q Last ws) in omega arith

push_times : (p : ℕ) (ws : List Waiting) (w : Waiting) → times p (places_of (ws ++ w ∷ [])) ≡ times p (places_of ws) +
    cond (nat_eq p w.place) 1 0
push_times p [] w = omega arith
push_times p (x ∷ xs) w = let k = push_times p xs w in omega arith

drop_times : (p : ℕ) (ws : List Waiting) (w : Waiting) → slice_get ws 0 ≡ Some w → times p (places_of (drop 1 ws)) +
    cond (nat_eq p w.place) 1 0 ≡ times p (places_of ws)
drop_times p [] w e = cc
drop_times p (x ∷ xs) w e =
    let f : w ≡ x = cc in
    let k : times p (places_of xs) + cond (nat_eq p x.place) 1 0 ≡ cond (nat_eq p x.place) 1 0 + times p
    (places_of xs) = omega arith in
    ap (λ (y : Waiting). times p (places_of xs) + cond (nat_eq p y.place) 1 0) f ∙ k

-- one more, once its session has lined up
pub lined_up_times : (v : TurnsValue) (p : ℕ) (k : Class) (q : ℕ) → times q (places_in (lined_up v p k).queues) ≡
    times q (places_in v.queues) + cond (nat_eq q p) 1 0
lined_up_times v p k q =
    let a = put_times q v.queues k (queue v.queues k ++ record { turn = v.next; place = p } ∷ []) in
    let b = push_times q (queue v.queues k) (record { turn = v.next; place = p }) in
    omega arith

-- one less, once its session is taken
pub taken_times : (v : TurnsValue) (p : ℕ) → next_place v ≡ Some p → (q : ℕ) → times q (places_in (taken v).queues) +
    cond (nat_eq q p) 1 0 ≡ times q (places_in v.queues)
taken_times v p e q = by (next_one v) refl e
  where
    by : (o : Option Waiting) → next_one v ≡ o → place_of o ≡ Some p → times q (places_in (taken_if o v).queues) +
        cond (nat_eq q p) 1 0 ≡ times q (places_in v.queues)
    by None f g = cc
    by (Some w) f g =
        let a : times q (places_in (taken_if (Some w) v).queues) + times q (places_of (queue v.queues (chosen v)))
        ≡ times q (places_in v.queues) + times q (places_of (drop 1 (queue v.queues (chosen v)))) =
        put_times q v.queues (chosen v) (drop 1 (queue v.queues (chosen v))) in
        let b = drop_times q (queue v.queues (chosen v)) w f in
        let h : p ≡ w.place = cc in
        let k : ◌≡◌ {A = ℕ} (cond (nat_eq q p) 1 0) (cond (nat_eq q w.place) 1 0) =
        ap (λ (r : ℕ). cond (nat_eq q r) 1 0) h in
        omega arith

-- whose turn it is waits
pub next_times : (v : TurnsValue) (p : ℕ) → next_place v ≡ Some p → 0 < times p (places_in v.queues)
next_times v p e = let a = taken_times v p e p in let b : ◌≡◌ {A = ℕ} (cond (nat_eq p p) 1 0) 1 = rw (same_number p)
    refl in omega arith

-- how many wait
places_long : (ws : List Waiting) → length (places_of ws) ≡ length ws
places_long [] = refl
places_long (w ∷ ws) = let k = places_long ws in omega arith

pub all_long : (q : Queues) → length (places_in q) ≡ how_many_in q
all_long q =
    let a : length (places_in q) ≡ length (places_of q.first) + length
    (places_of q.second ++ (places_of q.third ++ places_of q.last)) =
    length-append (places_of q.first) (places_of q.second ++ (places_of q.third ++ places_of q.last)) in
    let b : length (places_of q.second ++ (places_of q.third ++ places_of q.last)) ≡ length (places_of q.second) +
    length (places_of q.third ++ places_of q.last) =
    length-append (places_of q.second) (places_of q.third ++ places_of q.last) in
    let d = length-append (places_of q.third) (places_of q.last) in
    let e = places_long q.first in
    let f = places_long q.second in
    let g = places_long q.third in
    let h = places_long q.last in
    omega arith

pub room_taken : (v : TurnsValue) → (taken v).room ≡ v.room
room_taken v = by (next_one v)
  where
    by : (o : Option Waiting) → (taken_if o v).room ≡ v.room
    by None = refl
    by (Some w) = refl

-- the table, once a seat has taken the session whose turn it is
pub taken_at : (t : Tabled) (p : ℕ) (x : Option PooledSession) (ready : TurnsValue) → x ≡ None → ready ≡ taken t.ready →
    ◌≡◌ {A = Tabled} (record t {
      stands = slice_set t.stands p Away;
      sessions = slice_set t.sessions p x;
      ready =
          ready;
    }) (record (without t p) { ready = taken t.ready })
taken_at t p x ready e f = rw (e, f) refl
