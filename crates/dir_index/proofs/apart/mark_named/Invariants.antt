use Rattle.std.proofs.Common.{◌≡◌, false, length}
use Rattle.dir_index.specs.declared.posting.Posting.{Posting}
use Rattle.dir_index.specs.private.Marked.{has_posting, is_from_named}
use Rattle.dir_index.proofs.apart.mark_named.Given as goal

abbrev pub invariant-loop-attribute : goal.invariant-loop-attribute
invariant-loop-attribute l =
    record {
      more : (p : Posting) → has_posting l.marks.keys p ≡ false → has_posting l.initial.marks.keys p ≡ false;
      named : (p : Posting) → has_posting l.marks.keys p ≡ false → is_from_named l.indexes l.rest p ≡ false →
          is_from_named l.indexes l.named p ≡ false;
    }

abbrev pub decreases-loop-attribute : goal.decreases-loop-attribute
decreases-loop-attribute l = length l.rest
