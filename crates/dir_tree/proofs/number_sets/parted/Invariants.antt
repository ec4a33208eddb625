use Rattle.std.proofs.Common.{ℕ, ◌≡◌, length}
use Rattle.std.specs.Prelude.{◌&&◌, not}
use Rattle.dir_entry.specs.shared_map.Sets.{has_number}
use Rattle.dir_tree.proofs.number_sets.parted.Given as goal

abbrev pub invariant-loop-number : goal.invariant-loop-number
invariant-loop-number l = (j : ℕ) → (not (has_number j l.rest) && has_number j l.changed) ≡
    (not (has_number j l.fewer) && has_number j l.set)

abbrev pub decreases-loop-number : goal.decreases-loop-number
decreases-loop-number l = length l.rest
