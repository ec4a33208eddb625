use Rattle.std.proofs.Common.{◌≡◌}
use Rattle.std.specs.Prelude.{◌&&◌, ◌||◌}
use Rattle.dir_index.specs.declared.posting.Posting.{Posting}
use Rattle.dir_index.specs.private.Marked.{has_posting, lists_entry}
use Rattle.dir_index.proofs.membership.marks_within.Given as goal

abbrev pub invariant-loop-key : goal.invariant-loop-key
invariant-loop-key l =
    (p : Posting) → ((has_posting l.key-iterator p && lists_entry l.indexes l.attributes p) || has_posting
    l.within.keys p) ≡ (has_posting l.marks.keys p && lists_entry l.indexes l.attributes p)
