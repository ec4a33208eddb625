use Rattle.std.proofs.Common.{◌≡◌, true, false, length}
use Rattle.dir_index.specs.declared.posting.Posting.{Posting}
use Rattle.dir_index.specs.Ordered.{type_of}
use Rattle.dir_index.specs.private.Marked.{has_posting, lists_entry}
use Rattle.dir_index.specs.private.Touched.{is_whole}
use Rattle.dir_index.proofs.apart.mark_all.Given as goal

abbrev pub invariant-loop-attribute : goal.invariant-loop-attribute
invariant-loop-attribute l =
    record {
      more : (p : Posting) → has_posting l.marks.keys p ≡ false → has_posting l.initial.marks.keys p ≡ false;
      all : (p : Posting) → is_whole l.touched (type_of p) ≡ true → has_posting l.marks.keys p ≡ false → lists_entry
          l.indexes l.rest p ≡ false → lists_entry l.indexes l.attributes p ≡ false;
    }

abbrev pub decreases-loop-attribute : goal.decreases-loop-attribute
decreases-loop-attribute l = length l.rest
