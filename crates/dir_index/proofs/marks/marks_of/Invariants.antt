use Rattle.std.proofs.Common.{◌≡◌, length}
use Rattle.std.specs.Prelude.{◌&&◌, ◌||◌}
use Rattle.dir_index.specs.declared.posting.Posting.{Posting}
use Rattle.dir_index.specs.Ordered.{type_of}
use Rattle.dir_index.specs.private.Marked.{has_posting, lists_entry}
use Rattle.dir_index.specs.private.Touched.{is_touched}
use Rattle.dir_index.proofs.marks.marks_of.Given as goal

abbrev pub invariant-loop-attribute : goal.invariant-loop-attribute
invariant-loop-attribute l = (p : Posting) → ((is_touched l.touched (type_of p) && lists_entry l.indexes l.rest p) ||
    has_posting l.marks.keys p) ≡ (is_touched l.touched (type_of p) && lists_entry l.indexes l.attributes p)

abbrev pub decreases-loop-attribute : goal.decreases-loop-attribute
decreases-loop-attribute l = length l.rest
