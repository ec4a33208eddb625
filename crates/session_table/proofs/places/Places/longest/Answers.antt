-- What search doesn't prove of `longest`: what `index` requires, by lemmas of `Standing`.
use Rattle.std.proofs.Common.{◌≡◌, ℕ, refl, Some, slice_get, arith, length}
use Rattle.session_table.specs.declared.place_state.PlaceState.TheVariants.{Waits}
use Rattle.session_table.proofs.Standing.{below_made, waits_in_book}
use Rattle.session_table.proofs.places.Places.longest.Goals as goal

pub index-requires : goal.index-requires
index-requires c =
    let s = c.args.self.now in
    let p : ℕ = c.in_ok-place.place in
    let longest = c.in_ok-place.ensures.some in
    let stood : slice_get s.stands.items p ≡ Some Waits = waits_in_book s.stands.items s.book p c.args.queue
    longest.turn s.waits longest.is_in in
    let within = below_made s.stands.items p (length s.sessions.items) Waits (s.made p) stood refl in
    omega arith
