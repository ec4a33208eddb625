-- What search doesn't prove of `park`: the invariant and the clause `ok`, by lemmas of `Standing`.
use Rattle.std.proofs.Common.{◌≡◌, ℕ, List, refl, sym, ap, ◌∙◌, subst, Some, slice_get, nat_lt, arith, length, rules}
use Rattle.std.specs.Prelude.{slice_set}
use Rattle.std.proofs.lemmas.Option.{slice_get_within}
use Rattle.session_turns.specs.declared.spot.Spot.{Spot}
use Rattle.session_turns.specs.declared.spot.Spot.TheVariants.{Away as SpotAway, In}
use Rattle.session_table.specs.private.Stands.{places_in, is_free, is_ready, is_updates, is_waiting, is_in_queue, is_made, is_here, has_some}
use Rattle.session_table.specs.declared.pooled.PooledSession.{PooledSession}
use Rattle.session_table.specs.declared.place_state.PlaceState.TheVariants.{Away, Waits}
use Rattle.session_table.proofs.Standing.{stays, same_of, set_each, set_both, below_made, away_in_book, length_set, own_place}
use Rattle.session_table.proofs.places.Places.park.Goals as goal

pub invariant_of-self : goal.invariant_of-self
invariant_of-self c =
    let s = c.args.self.now in
    let g = c.args.pooled in
    let p = g.place in
    let stood : slice_get s.stands.items p ≡ Some Away = search rules in
    let ws = slice_get_within s.stands.items p Away stood in
    let away : slice_get s.book p ≡ Some SpotAway = away_in_book s.book p (let b = s.booked in omega arith) (s.waits p
    ∙ ap is_waiting stood) in
    let put = c.in-Ok.ensures.ok away in
    record {
      frees = stays is_free s.stands.items p Away Waits stood s.free.items refl refl s.frees;
      readies = stays is_ready s.stands.items p Away Waits stood (places_in s.ready.queues) refl refl s.readies;
      updating = stays is_updates s.stands.items p Away Waits stood s.updates.items refl refl s.updating;
      waits = subst (λ (xs : List Spot). (q : ℕ) → is_in_queue (slice_get xs q) ≡
          is_waiting (slice_get (slice_set s.stands.items p Waits) q)) (sym put.put)
          (set_both (λ q a b. is_in_queue a ≡ is_waiting b) s.book s.stands.items p (In c.args.queue put.turn) Waits
          (slice_get_within s.book p SpotAway away) ws refl s.waits);
      here = set_both (λ q a b. has_some a ≡ is_here b) s.sessions.items s.stands.items p (Some g) Waits
          (below_made s.stands.items p (length s.sessions.items) Away (s.made p) stood refl) ws refl s.here;
      own = set_each (λ q o. (h : PooledSession) → o ≡ Some (Some h) → h.place ≡ q) s.sessions.items p (Some g)
          (below_made s.stands.items p (length s.sessions.items) Away (s.made p) stood refl)
          (λ h e. own_place (λ (x : PooledSession). x.place) g h e) s.own;
      made = subst (λ (n : ℕ). (q : ℕ) → nat_lt q n ≡ is_made (slice_get (slice_set s.stands.items p Waits) q))
          (sym (length_set s.sessions.items p (Some g)))
          (same_of is_made (λ q. nat_lt q (length s.sessions.items)) s.stands.items p Away Waits stood refl s.made);
      booked = ap length put.put ∙ length_set s.book p (In c.args.queue put.turn) ∙ s.booked
          ∙ sym (length_set s.stands.items p Waits);
      room_free = search rules;
      room_ready = search rules;
      room_updates = search rules;
    }

pub returns-in-Ok-clause-ok : goal.returns-in-Ok-clause-ok
returns-in-Ok-clause-ok c =
    let s = c.args.self.now in
    let p = c.args.pooled.place in
    let stood : slice_get s.stands.items p ≡ Some Away = search rules in
    let ws = slice_get_within s.stands.items p Away stood in
    let away : slice_get s.book p ≡ Some SpotAway = away_in_book s.book p (let b = s.booked in omega arith) (s.waits p
    ∙ ap is_waiting stood) in
    record { away = stood; put = c.in-Ok.ensures.ok away; after = refl }
