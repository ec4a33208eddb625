-- What search doesn't prove of `wake`: the invariant, the clause `some`, the clause `none` and the clause `left`, by
-- lemmas of `Standing`.
use Rattle.std.proofs.Common.{◌≡◌, ℕ, List, refl, sym, ap, ◌∙◌, subst, Some, None, slice_get, nat_lt, length, rules}
use Rattle.std.specs.Prelude.{slice_set, Option}
use Rattle.std.proofs.lemmas.Option.{slice_get_within, get_or_from_slice_get}
use Rattle.session_turns.specs.declared.spot.Spot.{Spot}
use Rattle.session_turns.specs.declared.spot.Spot.TheVariants.{Away as SpotAway, In}
use Rattle.session_table.specs.private.Stands.{places_in, is_free, is_ready, is_updates, is_waiting, is_in_queue, is_made, is_here, has_some}
use Rattle.session_table.specs.declared.pooled.PooledSession.{PooledSession}
use Rattle.session_table.specs.declared.place_state.PlaceState.TheVariants.{Away, Waits}
use Rattle.session_table.proofs.Standing.{stays, same_of, set_each, set_both, below_made, length_set, waits_in_book, session_there}
use Rattle.session_table.proofs.places.Places.wake.Goals as goal

pub invariant_of-self-2 : goal.invariant_of-self-2
invariant_of-self-2 c =
    let s = c.args.self.now in
    let p : ℕ = c.args.place in
    let taken = c.in_ok-take.ensures.some in
    let stood : slice_get s.stands.items p ≡ Some Waits = waits_in_book s.stands.items s.book p c.in_ok-take.field-0
    taken.turn s.waits taken.was_in in
    let ws = slice_get_within s.stands.items p Waits stood in
    let wg = below_made s.stands.items p (length s.sessions.items) Waits (s.made p) stood refl in
    let gone : c.take-2.new.self ≡ None = c.take-2.ensures.after in
    record {
      frees = stays is_free s.stands.items p Waits Away stood s.free.items refl refl s.frees;
      readies = stays is_ready s.stands.items p Waits Away stood (places_in s.ready.queues) refl refl s.readies;
      updating = stays is_updates s.stands.items p Waits Away stood s.updates.items refl refl s.updating;
      waits = subst (λ (xs : List Spot). (q : ℕ) → is_in_queue (slice_get xs q) ≡
          is_waiting (slice_get (slice_set s.stands.items p Away) q)) (sym taken.taken)
          (set_both (λ q a b. is_in_queue a ≡ is_waiting b) s.book s.stands.items p SpotAway Away
          (slice_get_within s.book p (In c.in_ok-take.field-0 taken.turn) taken.was_in) ws refl s.waits);
      here = set_both (λ q a b. has_some a ≡ is_here b) s.sessions.items s.stands.items p c.take-2.new.self Away wg ws
          (ap (λ (x : Option PooledSession). has_some (Some x)) gone) s.here;
      own = set_each (λ q o. (h : PooledSession) → o ≡ Some (Some h) → h.place ≡ q) s.sessions.items p
          c.take-2.new.self wg (λ h e. cc) s.own;
      made = subst (λ (n : ℕ). (q : ℕ) → nat_lt q n ≡ is_made (slice_get (slice_set s.stands.items p Away) q))
          (sym (length_set s.sessions.items p c.take-2.new.self))
          (same_of is_made (λ q. nat_lt q (length s.sessions.items)) s.stands.items p Waits Away stood refl s.made);
      booked = ap length taken.taken ∙ length_set s.book p SpotAway ∙ s.booked ∙ sym (length_set s.stands.items p Away);
      room_free = search rules;
      room_ready = search rules;
      room_updates = search rules;
    }

pub returns-clause-some : goal.returns-clause-some
returns-clause-some c =
    let s = c.args.self.now in
    let p : ℕ = c.args.place in
    let taken = c.in_ok-take.ensures.some in
    let stood : slice_get s.stands.items p ≡ Some Waits = waits_in_book s.stands.items s.book p c.in_ok-take.field-0
    taken.turn s.waits taken.was_in in
    let there = session_there s.stands.items s.sessions.items p Waits s.here stood refl in
    let is : c.take-2.result ≡ Some there.0 = c.take-2.ensures.value ∙ c.index_mut-2.ensures.value
    ∙ get_or_from_slice_get s.sessions.items p (Some there.0) c.index_mut-2.result.now there.1 in
    let gone : c.take-2.new.self ≡ None = c.take-2.ensures.after in
    rw is (record {
      queue = c.in_ok-take.field-0;
      home = record { here = there.1; own = s.own p there.0 there.1 };
      taken = taken;
      after = rw gone refl;
    })

pub returns-clause-none : goal.returns-clause-none
returns-clause-none c =
    let s = c.args.self.now in
    let p : ℕ = c.args.place in
    let taken = c.in_ok-take.ensures.some in
    let stood : slice_get s.stands.items p ≡ Some Waits = waits_in_book s.stands.items s.book p c.in_ok-take.field-0
    taken.turn s.waits taken.was_in in
    let there = session_there s.stands.items s.sessions.items p Waits s.here stood refl in
    let is : c.take-2.result ≡ Some there.0 = c.take-2.ensures.value ∙ c.index_mut-2.ensures.value
    ∙ get_or_from_slice_get s.sessions.items p (Some there.0) c.index_mut-2.result.now there.1 in
    rw is tt

pub returns-clause-left : goal.returns-clause-left
returns-clause-left c =
    let s = c.args.self.now in
    let p : ℕ = c.args.place in
    let taken = c.in_ok-take.ensures.some in
    let stood : slice_get s.stands.items p ≡ Some Waits = waits_in_book s.stands.items s.book p c.in_ok-take.field-0
    taken.turn s.waits taken.was_in in
    let there = session_there s.stands.items s.sessions.items p Waits s.here stood refl in
    let is : c.take-2.result ≡ Some there.0 = c.take-2.ensures.value ∙ c.index_mut-2.ensures.value
    ∙ get_or_from_slice_get s.sessions.items p (Some there.0) c.index_mut-2.result.now there.1 in
    rw is tt
