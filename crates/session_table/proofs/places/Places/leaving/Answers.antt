-- What search doesn't prove of `leaving`: what `index` requires, by lemmas of `Standing`.
use Rattle.std.proofs.Common.{◌≡◌, ℕ, refl, ap, sym, ◌∙◌, Some, slice_get, arith, length}
use Rattle.session_turns.specs.Places.{IsIn}
use Rattle.session_table.specs.declared.place_state.PlaceState.TheVariants.{Waits}
use Rattle.session_table.proofs.Standing.{below_made, waits_in_book}
use Rattle.session_table.proofs.places.Places.leaving.Goals as goal

pub index-requires : goal.index-requires
index-requires c =
    let s = c.args.self.now in
    let p : ℕ = c.args.place in
    let is_in : IsIn s.book p c.in-Some-In-Leaving-default.field-0-0 c.in-Some-In-Leaving-default.field-0-1 =
    sym c.spot.ensures ∙ c.in-Some-In-Leaving-default.is ∙ ap Some c.in-Some-In-Leaving-default.field-0-is in
    let stood : slice_get s.stands.items p ≡ Some Waits = waits_in_book s.stands.items s.book p
    c.in-Some-In-Leaving-default.field-0-0 c.in-Some-In-Leaving-default.field-0-1 s.waits is_in in
    let within = below_made s.stands.items p (length s.sessions.items) Waits (s.made p) stood refl in
    omega arith
