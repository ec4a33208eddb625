use Rattle.std.proofs.Common.{◌≡◌}
use Rattle.std.specs.Prelude.{◌||◌}
use Rattle.std.specs.List.{list_any}
use Rattle.dir_index.specs.declared.posting.Posting.{Posting}
use Rattle.dir_index.specs.private.Marked.{has_posting, is_from_key}
use Rattle.dir_index.proofs.marks.mark_keys_of.Given as goal

abbrev pub invariant-loop-part : goal.invariant-loop-part
invariant-loop-part l = (p : Posting) → (list_any (is_from_key l.kinds l.attribute.kind p) l.rest.keys || has_posting
    l.marks.keys p) ≡ (list_any (is_from_key l.kinds l.attribute.kind p) l.attribute.keys || has_posting
    l.initial.marks.keys p)

abbrev pub decreases-loop-part : goal.decreases-loop-part
decreases-loop-part l = l.rest.count
