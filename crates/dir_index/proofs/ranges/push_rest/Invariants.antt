use Rattle.std.proofs.Common.{◌≡◌, ℕ, length}
use Rattle.std.specs.Prelude.{◌||◌}
use Rattle.index_choice.specs.dir_entry.shared_map.Entries.{Rises, IsAhead}
use Rattle.index_choice.specs.dir_entry.shared_map.Runs.{entries_after}
use Rattle.dir_index.specs.Postings.{has_number}
use Rattle.dir_index.specs.ListKeys.{list_order}
use Rattle.dir_index.specs.Places.{key_at}
use Rattle.dir_index.specs.private.Stored.{has_in_lists}
use Rattle.dir_index.proofs.ranges.push_rest.Given as goal

abbrev pub invariant-loop-key : goal.invariant-loop-key
invariant-loop-key l =
    record {
      rising : Rises list_order l.walk;
      behind : IsAhead list_order (key_at l.start) l.walk;
      has : (n : ℕ) → (has_number n l.into.items || has_in_lists l.range n l.walk) ≡
          (has_number n l.fn.into.items || has_in_lists l.range n (entries_after (list_order (key_at l.start))
          l.lists));
    }

abbrev pub decreases-loop-key : goal.decreases-loop-key
decreases-loop-key l = length l.walk
