-- What search doesn't prove of `notify`: what `index_mut` requires, the invariant, the clause `some`, the clause `none`
-- and the clause `left`, by lemmas of `Noted` and `Standing`.
use Rattle.std.proofs.Common.{◌≡◌, ℕ, sym, ap, ◌∙◌, subst, Some, slice_get, nat_lt, arith}
use Rattle.std.specs.Prelude.{Option}
use Rattle.std.proofs.lemmas.Option.{slice_get_within, get_or_from_slice_get}
use Rattle.session_table.specs.private.Stands.{is_made, is_here, has_some}
use Rattle.session_table.specs.private.Slots.{NotesOne, NotesAt}
use Rattle.session_table.specs.declared.pooled.PooledSession.{PooledSession}
use Rattle.session_table.specs.Tabling.{tabled}
use Rattle.session_table.proofs.Noted.{turn_here, told_at}
use Rattle.session_table.proofs.Standing.{set_each, some_there, length_set, own_after}
use Rattle.session_table.proofs.places.Places.notify.Goals as goal

pub index_mut-requires : goal.index_mut-requires
index_mut-requires c =
    let s = c.args.self.now in
    let p : ℕ = c.args.place in
    let turn = c.waits_its_turn.ensures.0 c.if-not-waits_its_turn.false in
    let there = some_there (slice_get s.sessions.items p) (s.here p ∙ turn_here (slice_get s.stands.items p) turn) in
    let within = slice_get_within s.sessions.items p (Some there.0) there.1 in
    omega arith

pub invariant_of-self : goal.invariant_of-self
invariant_of-self c =
    let s = c.args.self.now in
    let p : ℕ = c.args.place in
    let turn = c.waits_its_turn.ensures.0 c.if-not-waits_its_turn.false in
    let there = some_there (slice_get s.sessions.items p) (s.here p ∙ turn_here (slice_get s.stands.items p) turn) in
    let slot : c.index_mut.result.now ≡ Some there.0 = c.index_mut.ensures.value
    ∙ get_or_from_slice_get s.sessions.items p (Some there.0) c.index_mut.result.now there.1 in
    let r : NotesOne there.0 c.args.notice c.notified.new.pooled c.notified.result =
    subst (λ (o : Option PooledSession). NotesAt o c.args.notice c.notified.new.pooled c.notified.result) slot
    c.notified.ensures in
    let within = slice_get_within s.sessions.items p (Some there.0) there.1 in
    record {
      frees = s.frees;
      readies = s.readies;
      updating = s.updating;
      waits = s.waits;
      here = set_each (λ q o. has_some o ≡ is_here (slice_get s.stands.items q)) s.sessions.items p
          c.notified.new.pooled within
          (ap (λ (x : Option PooledSession). has_some (Some x)) r.after_is
          ∙ sym (turn_here (slice_get s.stands.items p) turn)) s.here;
      own = set_each (λ q o. (h : PooledSession) → o ≡ Some (Some h) → h.place ≡ q) s.sessions.items p
          c.notified.new.pooled within
          (λ h e. own_after (λ (x : PooledSession). x.place) c.notified.new.pooled r.pooled h p r.after_is
          (r.same.place ∙ s.own p there.0 there.1) e) s.own;
      made = subst (λ (n : ℕ). (q : ℕ) → nat_lt q n ≡ is_made (slice_get s.stands.items q))
          (sym (length_set s.sessions.items p c.notified.new.pooled)) s.made;
      booked = s.booked;
      room_free = s.room_free;
      room_ready = s.room_ready;
      room_updates = s.room_updates;
    }

pub returns-clause-some : goal.returns-clause-some
returns-clause-some c =
    let s = c.args.self.now in
    let p : ℕ = c.args.place in
    let turn = c.waits_its_turn.ensures.0 c.if-not-waits_its_turn.false in
    let there = some_there (slice_get s.sessions.items p) (s.here p ∙ turn_here (slice_get s.stands.items p) turn) in
    let slot : c.index_mut.result.now ≡ Some there.0 = c.index_mut.ensures.value
    ∙ get_or_from_slice_get s.sessions.items p (Some there.0) c.index_mut.result.now there.1 in
    let r : NotesOne there.0 c.args.notice c.notified.new.pooled c.notified.result =
    subst (λ (o : Option PooledSession). NotesAt o c.args.notice c.notified.new.pooled c.notified.result) slot
    c.notified.ensures in
    rw r.told_is (record {
      before = there.0;
      after = r.pooled;
      turn = turn;
      home = record { here = there.1; own = s.own p there.0 there.1 };
      same = r.same;
      noted = r.noted;
      told = told_at (tabled s) p c.notified.new.pooled r.pooled r.after_is;
    })

pub returns-clause-none : goal.returns-clause-none
returns-clause-none c =
    let s = c.args.self.now in
    let p : ℕ = c.args.place in
    let turn = c.waits_its_turn.ensures.0 c.if-not-waits_its_turn.false in
    let there = some_there (slice_get s.sessions.items p) (s.here p ∙ turn_here (slice_get s.stands.items p) turn) in
    let slot : c.index_mut.result.now ≡ Some there.0 = c.index_mut.ensures.value
    ∙ get_or_from_slice_get s.sessions.items p (Some there.0) c.index_mut.result.now there.1 in
    let r : NotesOne there.0 c.args.notice c.notified.new.pooled c.notified.result =
    subst (λ (o : Option PooledSession). NotesAt o c.args.notice c.notified.new.pooled c.notified.result) slot
    c.notified.ensures in
    rw r.told_is tt

pub returns-clause-left : goal.returns-clause-left
returns-clause-left c =
    let s = c.args.self.now in
    let p : ℕ = c.args.place in
    let turn = c.waits_its_turn.ensures.0 c.if-not-waits_its_turn.false in
    let there = some_there (slice_get s.sessions.items p) (s.here p ∙ turn_here (slice_get s.stands.items p) turn) in
    let slot : c.index_mut.result.now ≡ Some there.0 = c.index_mut.ensures.value
    ∙ get_or_from_slice_get s.sessions.items p (Some there.0) c.index_mut.result.now there.1 in
    let r : NotesOne there.0 c.args.notice c.notified.new.pooled c.notified.result =
    subst (λ (o : Option PooledSession). NotesAt o c.args.notice c.notified.new.pooled c.notified.result) slot
    c.notified.ensures in
    rw r.told_is tt
