use Rattle.std.proofs.Common.{◌≡◌, length}
use Rattle.std.specs.Prelude.{◌||◌}
use Rattle.dir_index.specs.declared.posting.Posting.{Posting}
use Rattle.dir_index.specs.private.Marked.{has_posting, is_run_of}
use Rattle.dir_index.proofs.marks.mark_runs.Given as goal

abbrev pub invariant-loop-behind : goal.invariant-loop-behind
invariant-loop-behind l = (p : Posting) → (is_run_of l.type_id l.rest p || has_posting l.marks.keys p) ≡
    (is_run_of l.type_id l.octets p || has_posting l.initial.marks.keys p)

abbrev pub decreases-loop-behind : goal.decreases-loop-behind
decreases-loop-behind l = length l.rest
