-- What search doesn't prove of `moves_between`: what it returns, by lemmas of `Changed`.
use Rattle.std.proofs.Common.{Bool, ap₂, ◌∙◌}
use Rattle.dir_index.specs.private.Whole.{moved}
use Rattle.dir_index.specs.private.Marked.{has_posting, lists_entry}
use Rattle.dir_index.proofs.Changed.{moved_within}
use Rattle.dir_index.proofs.moves.moves_between.Goals as goal

pub returns : goal.returns
returns c = λ p there.
    ap₂ (λ (b a : Bool). moved b a there) (c.in_ok-was.ensures p) (c.in_ok-is.ensures p)
    ∙ moved_within (has_posting c.in_ok-apart.apart.keys p) (lists_entry c.args.indexes.now c.args.before.now p)
    (lists_entry c.args.indexes.now c.args.after.now p) there (c.in_ok-apart.ensures p)
