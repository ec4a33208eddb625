-- What search doesn't prove of `next_ready`: what `index_mut` requires, the invariant, the clause `some`, the clause
-- `none` and the clause `left`, by lemmas of `Standing` and `Turned`.
use Rattle.std.proofs.Common.{◌≡◌, ℕ, ◌+◌, refl, sym, ap, ◌∙◌, subst, Some, None, slice_get, nat_lt, cond, arith, length, rules}
use Rattle.std.specs.Prelude.{slice_set, nat_eq, Option}
use Rattle.std.proofs.lemmas.Option.{slice_get_within, get_or_from_slice_get}
use Rattle.session_turns.specs.Turning.{TurnsValue, next_place}
use Rattle.session_table.specs.private.Stands.{times, places_in, is_free, is_ready, is_updates, is_waiting, is_in_queue, is_made, is_here, has_some}
use Rattle.session_table.specs.declared.pooled.PooledSession.{PooledSession}
use Rattle.session_table.specs.declared.place_state.PlaceState.TheVariants.{Away, Ready}
use Rattle.session_table.proofs.Standing.{listed_is_ready, leaves_list, stays, same_of, set_each, set_both, below_made, length_set, session_there}
use Rattle.session_table.specs.Tabling.{tabled}
use Rattle.session_table.proofs.Turned.{next_times, taken_times, room_taken, taken_at}
use Rattle.session_table.proofs.places.Places.next_ready.Goals as goal

pub index_mut-requires : goal.index_mut-requires
index_mut-requires c =
    let s = c.args.self.now in
    let p : ℕ = c.in_ok-place.place in
    let next : next_place s.ready ≡ Some p = sym c.take_next.ensures.next ∙ c.in_ok-place.was in
    let stood : slice_get s.stands.items p ≡ Some Ready = listed_is_ready s.stands.items (places_in s.ready.queues) p
    (next_times s.ready p next) s.readies in
    let within = slice_get_within s.stands.items p Ready stood in
    omega arith

pub index_mut-requires-2 : goal.index_mut-requires-2
index_mut-requires-2 c =
    let s = c.args.self.now in
    let p : ℕ = c.in_ok-place.place in
    let next : next_place s.ready ≡ Some p = sym c.take_next.ensures.next ∙ c.in_ok-place.was in
    let stood : slice_get s.stands.items p ≡ Some Ready = listed_is_ready s.stands.items (places_in s.ready.queues) p
    (next_times s.ready p next) s.readies in
    let within = below_made s.stands.items p (length s.sessions.items) Ready (s.made p) stood refl in
    omega arith

pub invariant_of-self-2 : goal.invariant_of-self-2
invariant_of-self-2 c =
    let s = c.args.self.now in
    let p : ℕ = c.in_ok-place.place in
    let next : next_place s.ready ≡ Some p = sym c.take_next.ensures.next ∙ c.in_ok-place.was in
    let stood : slice_get s.stands.items p ≡ Some Ready = listed_is_ready s.stands.items (places_in s.ready.queues) p
    (next_times s.ready p next) s.readies in
    let ws = slice_get_within s.stands.items p Ready stood in
    let wg = below_made s.stands.items p (length s.sessions.items) Ready (s.made p) stood refl in
    let gone : c.take.new.self ≡ None = c.take.ensures.after in
    record {
      frees = stays is_free s.stands.items p Ready Away stood s.free.items refl refl s.frees;
      readies = leaves_list is_ready s.stands.items p Ready Away stood (places_in s.ready.queues)
          (places_in c.take_next.new.self.queues) refl refl
          (λ q. ap (λ (v : TurnsValue). times q (places_in v.queues) + cond (nat_eq q p) 1 0)
          c.take_next.ensures.taken ∙ taken_times s.ready p next q) s.readies;
      updating = stays is_updates s.stands.items p Ready Away stood s.updates.items refl refl s.updating;
      waits = same_of is_waiting (λ q. is_in_queue (slice_get s.book q)) s.stands.items p Ready Away stood refl s.waits;
      here = set_both (λ q a b. has_some a ≡ is_here b) s.sessions.items s.stands.items p c.take.new.self Away wg ws
          (ap (λ (x : Option PooledSession). has_some (Some x)) gone) s.here;
      own = set_each (λ q o. (h : PooledSession) → o ≡ Some (Some h) → h.place ≡ q) s.sessions.items p c.take.new.self
          wg (λ h e. cc) s.own;
      made = subst (λ (n : ℕ). (q : ℕ) → nat_lt q n ≡ is_made (slice_get (slice_set s.stands.items p Away) q))
          (sym (length_set s.sessions.items p c.take.new.self))
          (same_of is_made (λ q. nat_lt q (length s.sessions.items)) s.stands.items p Ready Away stood refl s.made);
      booked = search rules;
      room_free = search rules;
      room_ready = let r = s.room_ready in let k = room_taken s.ready in let l = ap (λ (v : TurnsValue). v.room)
          c.take_next.ensures.taken in let n = length_set s.stands.items p Away in omega arith;
      room_updates = search rules;
    }

pub returns-clause-some : goal.returns-clause-some
returns-clause-some c =
    let s = c.args.self.now in
    let p : ℕ = c.in_ok-place.place in
    let next : next_place s.ready ≡ Some p = sym c.take_next.ensures.next ∙ c.in_ok-place.was in
    let stood : slice_get s.stands.items p ≡ Some Ready = listed_is_ready s.stands.items (places_in s.ready.queues) p
    (next_times s.ready p next) s.readies in
    let there = session_there s.stands.items s.sessions.items p Ready s.here stood refl in
    let is : c.take.result ≡ Some there.0 = c.take.ensures.value ∙ c.index_mut-2.ensures.value
    ∙ get_or_from_slice_get s.sessions.items p (Some there.0) c.index_mut-2.result.now there.1 in
    let gone : c.take.new.self ≡ None = c.take.ensures.after in
    rw is (record {
      place = p;
      home = record { here = there.1; own = s.own p there.0 there.1 };
      next = next;
      after =
          taken_at (tabled s) p c.take.new.self c.take_next.new.self gone c.take_next.ensures.taken;
    })

pub returns-clause-none : goal.returns-clause-none
returns-clause-none c =
    let s = c.args.self.now in
    let p : ℕ = c.in_ok-place.place in
    let next : next_place s.ready ≡ Some p = sym c.take_next.ensures.next ∙ c.in_ok-place.was in
    let stood : slice_get s.stands.items p ≡ Some Ready = listed_is_ready s.stands.items (places_in s.ready.queues) p
    (next_times s.ready p next) s.readies in
    let there = session_there s.stands.items s.sessions.items p Ready s.here stood refl in
    let is : c.take.result ≡ Some there.0 = c.take.ensures.value ∙ c.index_mut-2.ensures.value
    ∙ get_or_from_slice_get s.sessions.items p (Some there.0) c.index_mut-2.result.now there.1 in
    rw is tt

pub returns-clause-left : goal.returns-clause-left
returns-clause-left c =
    let s = c.args.self.now in
    let p : ℕ = c.in_ok-place.place in
    let next : next_place s.ready ≡ Some p = sym c.take_next.ensures.next ∙ c.in_ok-place.was in
    let stood : slice_get s.stands.items p ≡ Some Ready = listed_is_ready s.stands.items (places_in s.ready.queues) p
    (next_times s.ready p next) s.readies in
    let there = session_there s.stands.items s.sessions.items p Ready s.here stood refl in
    let is : c.take.result ≡ Some there.0 = c.take.ensures.value ∙ c.index_mut-2.ensures.value
    ∙ get_or_from_slice_get s.sessions.items p (Some there.0) c.index_mut-2.result.now there.1 in
    rw is tt
