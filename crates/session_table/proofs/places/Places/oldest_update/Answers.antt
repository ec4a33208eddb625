-- What search doesn't prove of `oldest_update`: what `index` requires, the clause `some` and the clause `none`, by
-- lemmas of `Oldest` and `Standing`.
use Rattle.std.proofs.Common.{◌≡◌, ℕ, refl, ◌∙◌, Some, slice_get, arith, length}
use Rattle.std.proofs.lemmas.Option.{get_or_from_slice_get}
use Rattle.session_table.specs.Tabling.{tabled, WaitsFirst}
use Rattle.session_table.specs.declared.place_state.PlaceState.TheVariants.{Updates}
use Rattle.session_table.specs.declared.pooled.PooledSession.{PooledSession}
use Rattle.session_table.proofs.Oldest.{seen_some, seen_not_none}
use Rattle.session_table.proofs.Standing.{below_made, first_is_updates, session_there}
use Rattle.session_table.proofs.places.Places.oldest_update.Goals as goal

pub index-requires : goal.index-requires
index-requires c =
    let s = c.args.self.now in
    let p : ℕ = c.in_ok-place.place in
    let first = c.in_ok-place.ensures.some in
    let stood : slice_get s.stands.items p ≡ Some Updates = first_is_updates s.stands.items s.updates.items first.0 p
    first.1 s.updating in
    let within = below_made s.stands.items p (length s.sessions.items) Updates (s.made p) stood refl in
    omega arith

pub returns-clause-some : goal.returns-clause-some
returns-clause-some c =
    let s = c.args.self.now in
    let p : ℕ = c.in_ok-place.place in
    let first = c.in_ok-place.ensures.some in
    let stood : slice_get s.stands.items p ≡ Some Updates = first_is_updates s.stands.items s.updates.items first.0 p
    first.1 s.updating in
    let there = session_there s.stands.items s.sessions.items p Updates s.here stood refl in
    let slot : c.index.result.now ≡ Some there.0 = c.index.ensures
    ∙ get_or_from_slice_get s.sessions.items p (Some there.0) c.index.result.now there.1 in
    seen_some (λ (g : PooledSession). WaitsFirst (tabled s) g) c.as_ref.result c.index.result.now there.0
    c.as_ref.ensures.value slot (record {
      place = p;
      home = record { here = there.1; own = s.own p there.0 there.1 };
      others = first.0;
      first = first.1;
    })

pub returns-clause-none : goal.returns-clause-none
returns-clause-none c =
    let s = c.args.self.now in
    let p : ℕ = c.in_ok-place.place in
    let first = c.in_ok-place.ensures.some in
    let stood : slice_get s.stands.items p ≡ Some Updates = first_is_updates s.stands.items s.updates.items first.0 p
    first.1 s.updating in
    let there = session_there s.stands.items s.sessions.items p Updates s.here stood refl in
    let slot : c.index.result.now ≡ Some there.0 = c.index.ensures
    ∙ get_or_from_slice_get s.sessions.items p (Some there.0) c.index.result.now there.1 in
    seen_not_none _ c.as_ref.result c.index.result.now there.0 c.as_ref.ensures.value slot
