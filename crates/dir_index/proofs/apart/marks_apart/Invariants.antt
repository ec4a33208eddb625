use Rattle.std.proofs.Common.{◌≡◌, ◌+◌, true, false, length}
use Rattle.dir_index.specs.declared.posting.Posting.{Posting}
use Rattle.dir_index.specs.Ordered.{type_of}
use Rattle.dir_index.specs.private.Marked.{has_posting, lists_entry, is_from_named}
use Rattle.dir_index.specs.private.Touched.{is_whole, named_in}
use Rattle.dir_index.proofs.apart.marks_apart.Given as goal

abbrev pub invariant-loop-earlier_first : goal.invariant-loop-earlier_first
invariant-loop-earlier_first l =
    record {
      named : (p : Posting) → has_posting l.marks.keys p ≡ false → is_from_named l.indexes (named_in l.touched) p ≡
          false;
      whole : (p : Posting) → is_whole l.touched (type_of p) ≡ true → has_posting l.marks.keys p ≡ false →
          lists_entry l.indexes l.earlier p ≡ lists_entry l.indexes l.later p → lists_entry l.indexes l.before p ≡
          lists_entry l.indexes l.after p;
    }

abbrev pub decreases-loop-earlier_first : goal.decreases-loop-earlier_first
decreases-loop-earlier_first l = length l.earlier + length l.later
