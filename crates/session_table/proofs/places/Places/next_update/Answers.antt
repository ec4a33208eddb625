-- What search doesn't prove of `next_update`: what `index_mut` requires, the invariant, the clause `some`, the clause
-- `none` and the clause `left`, by lemmas of `Standing`.
use Rattle.std.proofs.Common.{◌≡◌, ℕ, List, ◌∷◌, refl, sym, ap, ◌∙◌, subst, Some, None, slice_get, nat_lt, arith, length, rules}
use Rattle.std.specs.Prelude.{slice_set, Option}
use Rattle.std.proofs.lemmas.Option.{slice_get_within, get_or_from_slice_get}
use Rattle.session_table.specs.private.Stands.{places_in, times, is_free, is_ready, is_updates, is_waiting, is_in_queue, is_made, is_here, has_some}
use Rattle.session_table.specs.declared.pooled.PooledSession.{PooledSession}
use Rattle.session_table.specs.declared.place_state.PlaceState.TheVariants.{Away, Updates}
use Rattle.session_table.proofs.Standing.{first_is_updates, leaves, stays, same_of, set_each, set_both, below_made, length_set, session_there}
use Rattle.session_table.proofs.places.Places.next_update.Goals as goal

pub index_mut-requires : goal.index_mut-requires
index_mut-requires c =
    let s = c.args.self.now in
    let p : ℕ = c.in_ok-place.place in
    let left : List ℕ = c.pop_front.new.self.items in
    let out : s.updates.items ≡ p ∷ left = c.in_ok-place.ensures.items in
    let stood : slice_get s.stands.items p ≡ Some Updates = first_is_updates s.stands.items s.updates.items left p out
    s.updating in
    let within = slice_get_within s.stands.items p Updates stood in
    omega arith

pub index_mut-requires-2 : goal.index_mut-requires-2
index_mut-requires-2 c =
    let s = c.args.self.now in
    let p : ℕ = c.in_ok-place.place in
    let left : List ℕ = c.pop_front.new.self.items in
    let out : s.updates.items ≡ p ∷ left = c.in_ok-place.ensures.items in
    let stood : slice_get s.stands.items p ≡ Some Updates = first_is_updates s.stands.items s.updates.items left p out
    s.updating in
    let within = below_made s.stands.items p (length s.sessions.items) Updates (s.made p) stood refl in
    omega arith

pub invariant_of-self-2 : goal.invariant_of-self-2
invariant_of-self-2 c =
    let s = c.args.self.now in
    let p : ℕ = c.in_ok-place.place in
    let left : List ℕ = c.pop_front.new.self.items in
    let out : s.updates.items ≡ p ∷ left = c.in_ok-place.ensures.items in
    let stood : slice_get s.stands.items p ≡ Some Updates = first_is_updates s.stands.items s.updates.items left p out
    s.updating in
    let ws = slice_get_within s.stands.items p Updates stood in
    let wg = below_made s.stands.items p (length s.sessions.items) Updates (s.made p) stood refl in
    let gone : c.take.new.self ≡ None = c.take.ensures.after in
    record {
      frees = stays is_free s.stands.items p Updates Away stood s.free.items refl refl s.frees;
      readies = stays is_ready s.stands.items p Updates Away stood (places_in s.ready.queues) refl refl s.readies;
      updating = leaves is_updates s.stands.items p Updates Away stood left refl refl (λ q. ap (times q) (sym out)
          ∙ s.updating q);
      waits = same_of is_waiting (λ q. is_in_queue (slice_get s.book q)) s.stands.items p Updates Away stood refl
          s.waits;
      here = set_both (λ q a b. has_some a ≡ is_here b) s.sessions.items s.stands.items p c.take.new.self Away wg ws
          (ap (λ (x : Option PooledSession). has_some (Some x)) gone) s.here;
      own = set_each (λ q o. (h : PooledSession) → o ≡ Some (Some h) → h.place ≡ q) s.sessions.items p c.take.new.self
          wg (λ h e. cc) s.own;
      made = subst (λ (n : ℕ). (q : ℕ) → nat_lt q n ≡ is_made (slice_get (slice_set s.stands.items p Away) q))
          (sym (length_set s.sessions.items p c.take.new.self))
          (same_of is_made (λ q. nat_lt q (length s.sessions.items)) s.stands.items p Updates Away stood refl s.made);
      booked = search rules;
      room_free = search rules;
      room_ready = search rules;
      room_updates = search rules;
    }

pub returns-clause-some : goal.returns-clause-some
returns-clause-some c =
    let s = c.args.self.now in
    let p : ℕ = c.in_ok-place.place in
    let left : List ℕ = c.pop_front.new.self.items in
    let out : s.updates.items ≡ p ∷ left = c.in_ok-place.ensures.items in
    let stood : slice_get s.stands.items p ≡ Some Updates = first_is_updates s.stands.items s.updates.items left p out
    s.updating in
    let there = session_there s.stands.items s.sessions.items p Updates s.here stood refl in
    let is : c.take.result ≡ Some there.0 = c.take.ensures.value ∙ c.index_mut-2.ensures.value
    ∙ get_or_from_slice_get s.sessions.items p (Some there.0) c.index_mut-2.result.now there.1 in
    let gone : c.take.new.self ≡ None = c.take.ensures.after in
    rw is (record {
      place = p;
      home = record { here = there.1; own = s.own p there.0 there.1 };
      first = out;
      after =
          rw gone refl;
    })

pub returns-clause-none : goal.returns-clause-none
returns-clause-none c =
    let s = c.args.self.now in
    let p : ℕ = c.in_ok-place.place in
    let left : List ℕ = c.pop_front.new.self.items in
    let out : s.updates.items ≡ p ∷ left = c.in_ok-place.ensures.items in
    let stood : slice_get s.stands.items p ≡ Some Updates = first_is_updates s.stands.items s.updates.items left p out
    s.updating in
    let there = session_there s.stands.items s.sessions.items p Updates s.here stood refl in
    let is : c.take.result ≡ Some there.0 = c.take.ensures.value ∙ c.index_mut-2.ensures.value
    ∙ get_or_from_slice_get s.sessions.items p (Some there.0) c.index_mut-2.result.now there.1 in
    rw is tt

pub returns-clause-left : goal.returns-clause-left
returns-clause-left c =
    let s = c.args.self.now in
    let p : ℕ = c.in_ok-place.place in
    let left : List ℕ = c.pop_front.new.self.items in
    let out : s.updates.items ≡ p ∷ left = c.in_ok-place.ensures.items in
    let stood : slice_get s.stands.items p ≡ Some Updates = first_is_updates s.stands.items s.updates.items left p out
    s.updating in
    let there = session_there s.stands.items s.sessions.items p Updates s.here stood refl in
    let is : c.take.result ≡ Some there.0 = c.take.ensures.value ∙ c.index_mut-2.ensures.value
    ∙ get_or_from_slice_get s.sessions.items p (Some there.0) c.index_mut-2.result.now there.1 in
    rw is tt
