-- What search doesn't prove of `mark_keys`: `loop-key-preserved`, by lemmas of `Marking`.
use Rattle.std.proofs.Common.{ap, ◌∙◌}
use Rattle.std.specs.Prelude.{◌||◌}
use Rattle.dir_index.specs.private.Marked.{has_posting, is_from_key}
use Rattle.dir_index.proofs.Marking.{any_more}
use Rattle.dir_index.proofs.marks.mark_keys.Goals as goal

pub loop-key-preserved : goal.loop-key-preserved
loop-key-preserved c = λ p.
    c.in_ok-mark_key.ensures p ∙ ap (λ b. is_from_key c.args.kinds c.args.type_id p c.key-item.result || b)
    (c.loop-key.invariant p)
    ∙ any_more (is_from_key c.args.kinds c.args.type_id p) c.args.keys.now c.loop-key.key-index c.key-item.result
    (has_posting c.args.marks.now.keys p) c.loop-key-test.true c.key-item.is
