use Rattle.std.proofs.Common.{◌≡◌, map, take}
use Rattle.std.specs.Prelude.{◌||◌}
use Rattle.std.specs.List.{list_any}
use Rattle.dir_index.specs.declared.posting.Posting.{Posting}
use Rattle.dir_index.specs.private.Marked.{has_posting, is_from_key}
use Rattle.dir_index.proofs.apart.mark_keys.Given as goal

abbrev pub invariant-loop-key : goal.invariant-loop-key
invariant-loop-key l = (p : Posting) → has_posting l.marks.keys p ≡ (list_any (is_from_key l.kinds l.type_id p)
    (map (λ k. k.now) (take l.key-index l.keys)) || has_posting l.initial.marks.keys p)
