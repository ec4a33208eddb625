-- What search doesn't prove of `line_up`: what `line_up` requires, the invariant, what `index_mut` requires and what
-- `push_back_reserved` requires, by lemmas of `Standing` and `Turned`.
use Rattle.std.proofs.Common.{◌≡◌, ℕ, List, refl, sym, ap, ◌∙◌, subst, Some, slice_get, nat_lt, arith, length, rules}
use Rattle.std.specs.Prelude.{slice_set}
use Rattle.std.proofs.lemmas.Option.{slice_get_within}
use Rattle.session_turns.specs.Turning.{TurnsValue}
use Rattle.session_table.specs.private.Stands.{times, places_in, once, is_free, is_ready, is_updates, is_waiting, is_in_queue, is_made, is_here, has_some}
use Rattle.session_table.specs.declared.pooled.PooledSession.{PooledSession}
use Rattle.session_table.specs.declared.place_state.PlaceState.TheVariants.{Away, Ready, Updates}
use Rattle.session_table.proofs.Standing.{joins, joins_list, stays, same_of, set_each, set_both, below_made, has_room, length_set, own_place}
use Rattle.session_table.proofs.Turned.{lined_up_times, all_long}
use Rattle.session_table.proofs.places.Places.line_up.Goals as goal

pub line_up-requires : goal.line_up-requires
line_up-requires c =
    let s = c.args.self.now in
    let g : PooledSession = c.args.pooled in
    let p : ℕ = g.place in
    let stood : slice_get s.stands.items p ≡ Some Away = search rules in
    let k = has_room is_ready s.stands.items p Away (places_in s.ready.queues) stood refl s.readies in
    let j = s.room_ready in
    let i = all_long s.ready.queues in
    omega arith

pub invariant_of-self : goal.invariant_of-self
invariant_of-self c =
    let s = c.args.self.now in
    let g : PooledSession = c.args.pooled in
    let p : ℕ = g.place in
    let stood : slice_get s.stands.items p ≡ Some Away = search rules in
    let ws = slice_get_within s.stands.items p Away stood in
    let wg = below_made s.stands.items p (length s.sessions.items) Away (s.made p) stood refl in
    record {
      frees = stays is_free s.stands.items p Away Ready stood s.free.items refl refl s.frees;
      readies = joins_list is_ready s.stands.items p Away Ready stood (places_in s.ready.queues)
          (places_in c.line_up.new.self.queues) refl refl
          (λ q. ap (λ (v : TurnsValue). times q (places_in v.queues)) c.line_up.ensures ∙ lined_up_times s.ready p
          c.class-class.result q) s.readies;
      updating = stays is_updates s.stands.items p Away Ready stood s.updates.items refl refl s.updating;
      waits = same_of is_waiting (λ q. is_in_queue (slice_get s.book q)) s.stands.items p Away Ready stood refl s.waits;
      here = set_both (λ q a b. has_some a ≡ is_here b) s.sessions.items s.stands.items p (Some g) Ready wg ws refl
          s.here;
      own = set_each (λ q o. (h : PooledSession) → o ≡ Some (Some h) → h.place ≡ q) s.sessions.items p (Some g) wg
          (λ h e. own_place (λ (x : PooledSession). x.place) g h e) s.own;
      made = subst (λ (n : ℕ). (q : ℕ) → nat_lt q n ≡ is_made (slice_get (slice_set s.stands.items p Ready) q))
          (sym (length_set s.sessions.items p (Some g)))
          (same_of is_made (λ q. nat_lt q (length s.sessions.items)) s.stands.items p Away Ready stood refl s.made);
      booked = search rules;
      room_free = search rules;
      room_ready = search rules;
      room_updates = search rules;
    }

pub index_mut-requires-in-Seat : goal.index_mut-requires-in-Seat
index_mut-requires-in-Seat c =
    let s = c.args.self.now in
    let g : PooledSession = c.args.pooled in
    let p : ℕ = g.place in
    let stood : slice_get s.stands.items p ≡ Some Away = search rules in
    let within = slice_get_within s.stands.items p Away stood in
    omega arith

pub index_mut-requires-in-Update : goal.index_mut-requires-in-Update
index_mut-requires-in-Update c =
    let s = c.args.self.now in
    let g : PooledSession = c.args.pooled in
    let p : ℕ = g.place in
    let stood : slice_get s.stands.items p ≡ Some Away = search rules in
    let within = slice_get_within s.stands.items p Away stood in
    omega arith

pub push_back_reserved-requires : goal.push_back_reserved-requires
push_back_reserved-requires c =
    let s = c.args.self.now in
    let g : PooledSession = c.args.pooled in
    let p : ℕ = g.place in
    let stood : slice_get s.stands.items p ≡ Some Away = search rules in
    let k = has_room is_updates s.stands.items p Away s.updates.items stood refl s.updating in
    let j = s.room_updates in
    let i = s.updates.ok.0 in
    omega arith

pub invariant_of-self-in-Update : goal.invariant_of-self-in-Update
invariant_of-self-in-Update c =
    let s = c.args.self.now in
    let g : PooledSession = c.args.pooled in
    let p : ℕ = g.place in
    let stood : slice_get s.stands.items p ≡ Some Away = search rules in
    let ws = slice_get_within s.stands.items p Away stood in
    let wg = below_made s.stands.items p (length s.sessions.items) Away (s.made p) stood refl in
    record {
      frees = stays is_free s.stands.items p Away Updates stood s.free.items refl refl s.frees;
      readies = stays is_ready s.stands.items p Away Updates stood (places_in s.ready.queues) refl refl s.readies;
      updating = subst (λ (ps : List ℕ). (q : ℕ) → times q ps ≡ once is_updates
          (slice_get (slice_set s.stands.items p Updates) q)) (sym c.push_back_reserved.ensures.items)
          (joins is_updates s.stands.items p Away Updates stood s.updates.items refl refl s.updating);
      waits = same_of is_waiting (λ q. is_in_queue (slice_get s.book q)) s.stands.items p Away Updates stood refl
          s.waits;
      here = set_both (λ q a b. has_some a ≡ is_here b) s.sessions.items s.stands.items p (Some g) Updates wg ws refl
          s.here;
      own = set_each (λ q o. (h : PooledSession) → o ≡ Some (Some h) → h.place ≡ q) s.sessions.items p (Some g) wg
          (λ h e. own_place (λ (x : PooledSession). x.place) g h e) s.own;
      made = subst (λ (n : ℕ). (q : ℕ) → nat_lt q n ≡ is_made (slice_get (slice_set s.stands.items p Updates) q))
          (sym (length_set s.sessions.items p (Some g)))
          (same_of is_made (λ q. nat_lt q (length s.sessions.items)) s.stands.items p Away Updates stood refl s.made);
      booked = search rules;
      room_free = search rules;
      room_ready = search rules;
      room_updates = search rules;
    }
