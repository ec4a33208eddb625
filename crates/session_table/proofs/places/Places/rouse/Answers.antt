-- What search doesn't prove of `rouse`: the invariant, the clause `none`, the clause `left`, what `index_mut` requires
-- and others, by lemmas of `Lined`, `Turned` and `Standing`.
use Rattle.std.proofs.Common.{◌≡◌, ℕ, List, refl, sym, ap, ◌∙◌, subst, Some, slice_get, nat_lt, arith, length, rules}
use Rattle.std.specs.Prelude.{slice_set, Option}
use Rattle.std.proofs.lemmas.Option.{slice_get_within, get_or_from_slice_get}
use Rattle.session_turns.specs.declared.spot.Spot.{Spot}
use Rattle.session_turns.specs.declared.spot.Spot.TheVariants.{Away as SpotAway, In}
use Rattle.session_turns.specs.Owing.{class_of}
use Rattle.session_turns.specs.Turning.{TurnsValue}
use Rattle.session_table.specs.declared.place_state.Roused.{Roused}
use Rattle.session_table.specs.private.Stands.{times, places_in, once, is_free, is_ready, is_updates, is_waiting, is_in_queue, is_made, is_here, has_some}
use Rattle.session_table.specs.Waiting.{HasRoused}
use Rattle.session_table.specs.private.Slots.{RousesOne, RousesAt}
use Rattle.session_table.specs.declared.place_state.Turn.{Turn}
use Rattle.session_table.specs.declared.place_state.Turn.TheVariants.{Seat, Update}
use Rattle.session_table.specs.declared.pooled.PooledSession.{PooledSession}
use Rattle.session_table.specs.declared.place_state.PlaceState.TheVariants.{Waits, Ready, Updates}
use Rattle.session_table.specs.Tabling.{tabled}
use Rattle.session_table.proofs.Lined.{lined_seat, lined_update, same_roused}
use Rattle.session_table.proofs.Turned.{lined_up_times, all_long}
use Rattle.session_table.proofs.Standing.{joins, joins_list, stays, same_of, set_each, set_both, below_made, has_room, length_set, own_after, waits_in_book, session_there}
use Rattle.session_table.proofs.places.Places.rouse.Goals as goal

pub invariant_of-self-in-Break-branch-2 : goal.invariant_of-self-in-Break-branch-2
invariant_of-self-in-Break-branch-2 c =
    let s = c.args.self.now in
    let p : ℕ = c.args.place in
    let taken = c.in_ok-take.ensures.some in
    let stood : slice_get s.stands.items p ≡ Some Waits = waits_in_book s.stands.items s.book p c.in_ok-take.field-0
    taken.turn s.waits taken.was_in in
    let there = session_there s.stands.items s.sessions.items p Waits s.here stood refl in
    let slot : c.index_mut.result.now ≡ Some there.0 = c.index_mut.ensures.value
    ∙ get_or_from_slice_get s.sessions.items p (Some there.0) c.index_mut.result.now there.1 in
    let r : RousesOne there.0 c.args.micros c.roused.new.pooled c.roused.result = subst (λ (o : Option PooledSession).
    RousesAt o c.args.micros c.roused.new.pooled c.roused.result) slot c.roused.ensures in
    let w = c.in_err-fd.was in
    let told = r.told_is in
    let no : ⊥ = cc in
    absurd no

pub returns-in_err-fd-clause-none : goal.returns-in_err-fd-clause-none
returns-in_err-fd-clause-none c =
    let s = c.args.self.now in
    let p : ℕ = c.args.place in
    let taken = c.in_ok-take.ensures.some in
    let stood : slice_get s.stands.items p ≡ Some Waits = waits_in_book s.stands.items s.book p c.in_ok-take.field-0
    taken.turn s.waits taken.was_in in
    let there = session_there s.stands.items s.sessions.items p Waits s.here stood refl in
    let slot : c.index_mut.result.now ≡ Some there.0 = c.index_mut.ensures.value
    ∙ get_or_from_slice_get s.sessions.items p (Some there.0) c.index_mut.result.now there.1 in
    let r : RousesOne there.0 c.args.micros c.roused.new.pooled c.roused.result = subst (λ (o : Option PooledSession).
    RousesAt o c.args.micros c.roused.new.pooled c.roused.result) slot c.roused.ensures in
    let w = c.in_err-fd.was in
    let told = r.told_is in
    let no : ⊥ = cc in
    absurd no

pub returns-in_err-fd-clause-left : goal.returns-in_err-fd-clause-left
returns-in_err-fd-clause-left c =
    let s = c.args.self.now in
    let p : ℕ = c.args.place in
    let taken = c.in_ok-take.ensures.some in
    let stood : slice_get s.stands.items p ≡ Some Waits = waits_in_book s.stands.items s.book p c.in_ok-take.field-0
    taken.turn s.waits taken.was_in in
    let there = session_there s.stands.items s.sessions.items p Waits s.here stood refl in
    let slot : c.index_mut.result.now ≡ Some there.0 = c.index_mut.ensures.value
    ∙ get_or_from_slice_get s.sessions.items p (Some there.0) c.index_mut.result.now there.1 in
    let r : RousesOne there.0 c.args.micros c.roused.new.pooled c.roused.result = subst (λ (o : Option PooledSession).
    RousesAt o c.args.micros c.roused.new.pooled c.roused.result) slot c.roused.ensures in
    let w = c.in_err-fd.was in
    let told = r.told_is in
    let no : ⊥ = cc in
    absurd no

pub index_mut-requires-in-Seat : goal.index_mut-requires-in-Seat
index_mut-requires-in-Seat c =
    let s = c.args.self.now in
    let p : ℕ = c.args.place in
    let taken = c.in_ok-take.ensures.some in
    let stood : slice_get s.stands.items p ≡ Some Waits = waits_in_book s.stands.items s.book p c.in_ok-take.field-0
    taken.turn s.waits taken.was_in in
    let there = session_there s.stands.items s.sessions.items p Waits s.here stood refl in
    let slot : c.index_mut.result.now ≡ Some there.0 = c.index_mut.ensures.value
    ∙ get_or_from_slice_get s.sessions.items p (Some there.0) c.index_mut.result.now there.1 in
    let r : RousesOne there.0 c.args.micros c.roused.new.pooled c.roused.result = subst (λ (o : Option PooledSession).
    RousesAt o c.args.micros c.roused.new.pooled c.roused.result) slot c.roused.ensures in
    let within = slice_get_within s.stands.items p Waits stood in
    omega arith

pub line_up-requires : goal.line_up-requires
line_up-requires c =
    let s = c.args.self.now in
    let p : ℕ = c.args.place in
    let taken = c.in_ok-take.ensures.some in
    let stood : slice_get s.stands.items p ≡ Some Waits = waits_in_book s.stands.items s.book p c.in_ok-take.field-0
    taken.turn s.waits taken.was_in in
    let there = session_there s.stands.items s.sessions.items p Waits s.here stood refl in
    let slot : c.index_mut.result.now ≡ Some there.0 = c.index_mut.ensures.value
    ∙ get_or_from_slice_get s.sessions.items p (Some there.0) c.index_mut.result.now there.1 in
    let r : RousesOne there.0 c.args.micros c.roused.new.pooled c.roused.result = subst (λ (o : Option PooledSession).
    RousesAt o c.args.micros c.roused.new.pooled c.roused.result) slot c.roused.ensures in
    let k = has_room is_ready s.stands.items p Waits (places_in s.ready.queues) stood refl s.readies in
    let j = s.room_ready in
    let i = all_long s.ready.queues in
    omega arith

pub invariant_of-self-in-Seat : goal.invariant_of-self-in-Seat
invariant_of-self-in-Seat c =
    let s = c.args.self.now in
    let p : ℕ = c.args.place in
    let taken = c.in_ok-take.ensures.some in
    let stood : slice_get s.stands.items p ≡ Some Waits = waits_in_book s.stands.items s.book p c.in_ok-take.field-0
    taken.turn s.waits taken.was_in in
    let there = session_there s.stands.items s.sessions.items p Waits s.here stood refl in
    let slot : c.index_mut.result.now ≡ Some there.0 = c.index_mut.ensures.value
    ∙ get_or_from_slice_get s.sessions.items p (Some there.0) c.index_mut.result.now there.1 in
    let r : RousesOne there.0 c.args.micros c.roused.new.pooled c.roused.result = subst (λ (o : Option PooledSession).
    RousesAt o c.args.micros c.roused.new.pooled c.roused.result) slot c.roused.ensures in
    let ws = slice_get_within s.stands.items p Waits stood in
    let wg = below_made s.stands.items p (length s.sessions.items) Waits (s.made p) stood refl in
    record {
      frees = stays is_free s.stands.items p Waits Ready stood s.free.items refl refl s.frees;
      readies = joins_list is_ready s.stands.items p Waits Ready stood (places_in s.ready.queues)
          (places_in c.line_up.new.self.queues) refl refl
          (λ q. ap (λ (v : TurnsValue). times q (places_in v.queues)) c.line_up.ensures ∙ lined_up_times s.ready p
          c.in_ok-fd.field-0.class q) s.readies;
      updating = stays is_updates s.stands.items p Waits Ready stood s.updates.items refl refl s.updating;
      waits = subst (λ (xs : List Spot). (q : ℕ) → is_in_queue (slice_get xs q) ≡
          is_waiting (slice_get (slice_set s.stands.items p Ready) q)) (sym taken.taken)
          (set_both (λ q a b. is_in_queue a ≡ is_waiting b) s.book s.stands.items p SpotAway Ready
          (slice_get_within s.book p (In c.in_ok-take.field-0 taken.turn) taken.was_in) ws refl s.waits);
      here = set_both (λ q a b. has_some a ≡ is_here b) s.sessions.items s.stands.items p c.roused.new.pooled Ready wg
          ws (ap (λ (x : Option PooledSession). has_some (Some x)) r.after_is) s.here;
      own = set_each (λ q o. (h : PooledSession) → o ≡ Some (Some h) → h.place ≡ q) s.sessions.items p
          c.roused.new.pooled wg
          (λ h e. own_after (λ (x : PooledSession). x.place) c.roused.new.pooled r.pooled h p r.after_is
          (r.roused.waited.same.place ∙ s.own p there.0 there.1) e) s.own;
      made = subst (λ (n : ℕ). (q : ℕ) → nat_lt q n ≡ is_made (slice_get (slice_set s.stands.items p Ready) q))
          (sym (length_set s.sessions.items p c.roused.new.pooled))
          (same_of is_made (λ q. nat_lt q (length s.sessions.items)) s.stands.items p Waits Ready stood refl s.made);
      booked = ap length taken.taken ∙ length_set s.book p SpotAway ∙ s.booked
          ∙ sym (length_set s.stands.items p Ready);
      room_free = search rules;
      room_ready = search rules;
      room_updates = search rules;
    }

pub returns-in-Seat-clause-some : goal.returns-in-Seat-clause-some
returns-in-Seat-clause-some c =
    let s = c.args.self.now in
    let p : ℕ = c.args.place in
    let taken = c.in_ok-take.ensures.some in
    let stood : slice_get s.stands.items p ≡ Some Waits = waits_in_book s.stands.items s.book p c.in_ok-take.field-0
    taken.turn s.waits taken.was_in in
    let there = session_there s.stands.items s.sessions.items p Waits s.here stood refl in
    let slot : c.index_mut.result.now ≡ Some there.0 = c.index_mut.ensures.value
    ∙ get_or_from_slice_get s.sessions.items p (Some there.0) c.index_mut.result.now there.1 in
    let r : RousesOne there.0 c.args.micros c.roused.new.pooled c.roused.result = subst (λ (o : Option PooledSession).
    RousesAt o c.args.micros c.roused.new.pooled c.roused.result) slot c.roused.ensures in
    let told : record { fd = r.fd; turn = r.turn; class = r.class } ≡ c.in_ok-fd.field-0 =
    same_roused c.roused.result (record { fd = r.fd; turn = r.turn; class = r.class }) c.in_ok-fd.field-0 r.told_is
    c.in_ok-fd.was in
    let turn : r.turn ≡ Seat = ap (λ (x : Roused). x.turn) told ∙ c.in-Seat.is in
    record {
      before = there.0;
      after = r.pooled;
      queue = c.in_ok-take.field-0;
      home = record { here = there.1; own = s.own p there.0 there.1 };
      taken = taken;
      roused = subst (λ (t : Turn). HasRoused there.0 r.pooled t) turn r.roused;
      lined = lined_seat (tabled s) p c.args.micros c.roused.new.pooled r.pooled c.take.new.self c.line_up.new.self
          c.in_ok-fd.field-0.class r.after_is c.line_up.ensures (sym (ap (λ (x : Roused). x.class) told) ∙ r.class_is);
    }

pub index_mut-requires-in-Update : goal.index_mut-requires-in-Update
index_mut-requires-in-Update c =
    let s = c.args.self.now in
    let p : ℕ = c.args.place in
    let taken = c.in_ok-take.ensures.some in
    let stood : slice_get s.stands.items p ≡ Some Waits = waits_in_book s.stands.items s.book p c.in_ok-take.field-0
    taken.turn s.waits taken.was_in in
    let there = session_there s.stands.items s.sessions.items p Waits s.here stood refl in
    let slot : c.index_mut.result.now ≡ Some there.0 = c.index_mut.ensures.value
    ∙ get_or_from_slice_get s.sessions.items p (Some there.0) c.index_mut.result.now there.1 in
    let r : RousesOne there.0 c.args.micros c.roused.new.pooled c.roused.result = subst (λ (o : Option PooledSession).
    RousesAt o c.args.micros c.roused.new.pooled c.roused.result) slot c.roused.ensures in
    let within = slice_get_within s.stands.items p Waits stood in
    omega arith

pub push_back_reserved-requires : goal.push_back_reserved-requires
push_back_reserved-requires c =
    let s = c.args.self.now in
    let p : ℕ = c.args.place in
    let taken = c.in_ok-take.ensures.some in
    let stood : slice_get s.stands.items p ≡ Some Waits = waits_in_book s.stands.items s.book p c.in_ok-take.field-0
    taken.turn s.waits taken.was_in in
    let there = session_there s.stands.items s.sessions.items p Waits s.here stood refl in
    let slot : c.index_mut.result.now ≡ Some there.0 = c.index_mut.ensures.value
    ∙ get_or_from_slice_get s.sessions.items p (Some there.0) c.index_mut.result.now there.1 in
    let r : RousesOne there.0 c.args.micros c.roused.new.pooled c.roused.result = subst (λ (o : Option PooledSession).
    RousesAt o c.args.micros c.roused.new.pooled c.roused.result) slot c.roused.ensures in
    let k = has_room is_updates s.stands.items p Waits s.updates.items stood refl s.updating in
    let j = s.room_updates in
    let i = s.updates.ok.0 in
    omega arith

pub invariant_of-self-in-Update : goal.invariant_of-self-in-Update
invariant_of-self-in-Update c =
    let s = c.args.self.now in
    let p : ℕ = c.args.place in
    let taken = c.in_ok-take.ensures.some in
    let stood : slice_get s.stands.items p ≡ Some Waits = waits_in_book s.stands.items s.book p c.in_ok-take.field-0
    taken.turn s.waits taken.was_in in
    let there = session_there s.stands.items s.sessions.items p Waits s.here stood refl in
    let slot : c.index_mut.result.now ≡ Some there.0 = c.index_mut.ensures.value
    ∙ get_or_from_slice_get s.sessions.items p (Some there.0) c.index_mut.result.now there.1 in
    let r : RousesOne there.0 c.args.micros c.roused.new.pooled c.roused.result = subst (λ (o : Option PooledSession).
    RousesAt o c.args.micros c.roused.new.pooled c.roused.result) slot c.roused.ensures in
    let ws = slice_get_within s.stands.items p Waits stood in
    let wg = below_made s.stands.items p (length s.sessions.items) Waits (s.made p) stood refl in
    record {
      frees = stays is_free s.stands.items p Waits Updates stood s.free.items refl refl s.frees;
      readies = stays is_ready s.stands.items p Waits Updates stood (places_in s.ready.queues) refl refl s.readies;
      updating = subst (λ (ps : List ℕ). (q : ℕ) → times q ps ≡ once is_updates
          (slice_get (slice_set s.stands.items p Updates) q)) (sym c.push_back_reserved.ensures.items)
          (joins is_updates s.stands.items p Waits Updates stood s.updates.items refl refl s.updating);
      waits = subst (λ (xs : List Spot). (q : ℕ) → is_in_queue (slice_get xs q) ≡
          is_waiting (slice_get (slice_set s.stands.items p Updates) q)) (sym taken.taken)
          (set_both (λ q a b. is_in_queue a ≡ is_waiting b) s.book s.stands.items p SpotAway Updates
          (slice_get_within s.book p (In c.in_ok-take.field-0 taken.turn) taken.was_in) ws refl s.waits);
      here = set_both (λ q a b. has_some a ≡ is_here b) s.sessions.items s.stands.items p c.roused.new.pooled Updates
          wg ws (ap (λ (x : Option PooledSession). has_some (Some x)) r.after_is) s.here;
      own = set_each (λ q o. (h : PooledSession) → o ≡ Some (Some h) → h.place ≡ q) s.sessions.items p
          c.roused.new.pooled wg
          (λ h e. own_after (λ (x : PooledSession). x.place) c.roused.new.pooled r.pooled h p r.after_is
          (r.roused.waited.same.place ∙ s.own p there.0 there.1) e) s.own;
      made = subst (λ (n : ℕ). (q : ℕ) → nat_lt q n ≡ is_made (slice_get (slice_set s.stands.items p Updates) q))
          (sym (length_set s.sessions.items p c.roused.new.pooled))
          (same_of is_made (λ q. nat_lt q (length s.sessions.items)) s.stands.items p Waits Updates stood refl s.made);
      booked = ap length taken.taken ∙ length_set s.book p SpotAway ∙ s.booked
          ∙ sym (length_set s.stands.items p Updates);
      room_free = search rules;
      room_ready = search rules;
      room_updates = search rules;
    }

pub returns-in-Update-clause-some : goal.returns-in-Update-clause-some
returns-in-Update-clause-some c =
    let s = c.args.self.now in
    let p : ℕ = c.args.place in
    let taken = c.in_ok-take.ensures.some in
    let stood : slice_get s.stands.items p ≡ Some Waits = waits_in_book s.stands.items s.book p c.in_ok-take.field-0
    taken.turn s.waits taken.was_in in
    let there = session_there s.stands.items s.sessions.items p Waits s.here stood refl in
    let slot : c.index_mut.result.now ≡ Some there.0 = c.index_mut.ensures.value
    ∙ get_or_from_slice_get s.sessions.items p (Some there.0) c.index_mut.result.now there.1 in
    let r : RousesOne there.0 c.args.micros c.roused.new.pooled c.roused.result = subst (λ (o : Option PooledSession).
    RousesAt o c.args.micros c.roused.new.pooled c.roused.result) slot c.roused.ensures in
    let told : record { fd = r.fd; turn = r.turn; class = r.class } ≡ c.in_ok-fd.field-0 =
    same_roused c.roused.result (record { fd = r.fd; turn = r.turn; class = r.class }) c.in_ok-fd.field-0 r.told_is
    c.in_ok-fd.was in
    let turn : r.turn ≡ Update = ap (λ (x : Roused). x.turn) told ∙ c.in-Update.is in
    record {
      before = there.0;
      after = r.pooled;
      queue = c.in_ok-take.field-0;
      home = record { here = there.1; own = s.own p there.0 there.1 };
      taken = taken;
      roused = subst (λ (t : Turn). HasRoused there.0 r.pooled t) turn r.roused;
      lined = lined_update (tabled s) p c.roused.new.pooled r.pooled c.take.new.self
          c.push_back_reserved.new.self.items (class_of r.pooled.debt c.args.micros) r.after_is
          c.push_back_reserved.ensures.items;
    }
