use Rattle.std.proofs.Common.{◌≡◌, [], drop}
use Rattle.text_faults.specs.Filters.{place_behind, around_behind}
use Rattle.text_faults.specs.declared.filters.Place.TheVariants as place
use Rattle.text_faults.proofs.filters.place_behind.Given as goal

abbrev pub invariant-loop-index : goal.invariant-loop-index
invariant-loop-index l =
    (place_behind l.index l.place (drop l.index l.front) ≡ place_behind 0 place.Opening l.front)
    × (around_behind l.index l.place l.around.items (drop l.index l.front) ≡ around_behind 0 place.Opening [] l.front)
