-- What search doesn't prove of `claim`: what `index_mut` requires, the invariant and the clause `ok`, by lemmas of
-- `Standing`.
use Rattle.std.proofs.Common.{◌≡◌, refl, sym, ap, ◌∙◌, Some, slice_get, nat_lt, inr, arith, length, rules}
use Rattle.std.proofs.lemmas.Option.{slice_get_within}
use Rattle.session_table.specs.private.Stands.{places_in, times, is_free, is_ready, is_updates, is_waiting, is_in_queue, is_made, is_here, has_some}
use Rattle.session_table.specs.declared.place_state.PlaceState.TheVariants.{Free, Away}
use Rattle.session_table.proofs.Standing.{last_is_free, leaves_back, stays, same_of}
use Rattle.session_table.proofs.places.Places.claim.Goals as goal

pub index_mut-requires : goal.index_mut-requires
index_mut-requires c =
    let s = c.args.self.now in
    let stood = last_is_free s.stands.items s.free.items c.pop.new.self.items c.in-Some.place c.in-Some.ensures.items
    s.frees in
    let within = slice_get_within s.stands.items c.in-Some.place Free stood in
    omega arith

pub invariant_of-self : goal.invariant_of-self
invariant_of-self c =
    let s = c.args.self.now in
    let p = c.in-Some.place in
    let stood : slice_get s.stands.items p ≡ Some Free = last_is_free s.stands.items s.free.items c.pop.new.self.items
    p c.in-Some.ensures.items s.frees in
    record {
      frees = leaves_back is_free s.stands.items p Free Away stood c.pop.new.self.items refl refl
          (λ q. ap (times q) (sym c.in-Some.ensures.items) ∙ s.frees q);
      readies = stays is_ready s.stands.items p Free Away stood (places_in s.ready.queues) refl refl s.readies;
      updating = stays is_updates s.stands.items p Free Away stood s.updates.items refl refl s.updating;
      waits = same_of is_waiting (λ q. is_in_queue (slice_get s.book q)) s.stands.items p Free Away stood refl s.waits;
      here = same_of is_here (λ q. has_some (slice_get s.sessions.items q)) s.stands.items p Free Away stood refl
          s.here;
      own = s.own;
      made = same_of is_made (λ q. nat_lt q (length s.sessions.items)) s.stands.items p Free Away stood refl s.made;
      booked = search rules;
      room_free = search rules;
      room_ready = search rules;
      room_updates = search rules;
    }

pub returns-in-Some-clause-ok : goal.returns-in-Some-clause-ok
returns-in-Some-clause-ok c =
    let s = c.args.self.now in
    let stood = last_is_free s.stands.items s.free.items c.pop.new.self.items c.in-Some.place c.in-Some.ensures.items
    s.frees in
    record { free = inr stood; stands = refl; sessions = λ q. refl; spots = refl; ready = refl; updates = refl }
