-- What search doesn't prove of `free`: what `push_reserved` requires and the invariant, by lemmas of `Standing`.
use Rattle.std.proofs.Common.{◌≡◌, ℕ, List, refl, sym, subst, Some, slice_get, nat_lt, arith, length, rules}
use Rattle.std.specs.Prelude.{slice_set}
use Rattle.session_table.specs.private.Stands.{places_in, times, once, is_free, is_ready, is_updates, is_waiting, is_in_queue, is_made, is_here, has_some}
use Rattle.session_table.specs.declared.place_state.PlaceState.TheVariants.{Free, Away}
use Rattle.session_table.proofs.Standing.{joins, stays, same_of, has_room}
use Rattle.session_table.proofs.places.Places.free.Goals as goal

pub push_reserved-requires : goal.push_reserved-requires
push_reserved-requires c =
    let s = c.args.self.now in
    let k = has_room is_free s.stands.items c.args.place Away s.free.items (search rules) refl s.frees in
    let j = s.room_free in
    omega arith

pub invariant_of-self : goal.invariant_of-self
invariant_of-self c =
    let s = c.args.self.now in
    let p = c.args.place in
    let stood : slice_get s.stands.items p ≡ Some Away = search rules in
    record {
      frees = subst (λ (ps : List ℕ). (q : ℕ) → times q ps ≡ once is_free (slice_get (slice_set s.stands.items p Free)
          q)) (sym c.push_reserved.ensures.items)
          (joins is_free s.stands.items p Away Free stood s.free.items refl refl s.frees);
      readies = stays is_ready s.stands.items p Away Free stood (places_in s.ready.queues) refl refl s.readies;
      updating = stays is_updates s.stands.items p Away Free stood s.updates.items refl refl s.updating;
      waits = same_of is_waiting (λ q. is_in_queue (slice_get s.book q)) s.stands.items p Away Free stood refl s.waits;
      here = same_of is_here (λ q. has_some (slice_get s.sessions.items q)) s.stands.items p Away Free stood refl
          s.here;
      own = s.own;
      made = same_of is_made (λ q. nat_lt q (length s.sessions.items)) s.stands.items p Away Free stood refl s.made;
      booked = search rules;
      room_free = search rules;
      room_ready = search rules;
      room_updates = search rules;
    }
