use Rattle.std.proofs.Common.{◌≡◌, length, map, string_bytes}
use Rattle.indexed_tree.specs.directory_api.FoundView.{found_view}
use Rattle.dir_search.specs.Selection.{selected}
use Rattle.dir_search.proofs.Limits.{SoFar}
use Rattle.dir_search.proofs.selecting.Showing.show_found.Given as goal

-- what is shown of the entries so far, within the limit, and the numbers that are left; what is left open stays
abbrev pub invariant-loop-number : goal.invariant-loop-number
invariant-loop-number l = record {
  so_far : SoFar (selected l.self.schema.now (map string_bytes l.self.request.now.attributes.items)
      l.self.request.now.types_only) l.tree.entries l.limit l.fn.running.to_come l.running.to_come
      (map found_view l.entries.items);
  same : l.running.open_numbers ≡ l.fn.running.open_numbers;
  read : l.reader ≡ record { schema = l.self.schema.now; entries = l.tree.entries };
}

abbrev pub decreases-loop-number : goal.decreases-loop-number
decreases-loop-number l = length l.running.to_come
