-- What search doesn't prove of `all_moves`: what it returns, by lemmas of `Changed` and `Untouched`.
use Rattle.std.proofs.Common.{Bool, ap₂, ◌∙◌}
use Rattle.dir_index.specs.Ordered.{type_of}
use Rattle.dir_index.specs.private.Marked.{lists_entry}
use Rattle.dir_index.specs.private.Touched.{is_touched}
use Rattle.dir_index.specs.private.Whole.{moved}
use Rattle.dir_index.proofs.Changed.{moved_within}
use Rattle.dir_index.proofs.Untouched.{untouched_alike}
use Rattle.dir_index.proofs.moves.all_moves.Goals as goal

pub returns : goal.returns
returns c = λ p there.
    ap₂ (λ (b a : Bool). moved b a there) (c.in_ok-was.ensures p) (c.in_ok-is.ensures p)
    ∙ moved_within (is_touched c.args.touched.now (type_of p)) (lists_entry c.args.indexes.now c.args.before.now p)
    (lists_entry c.args.indexes.now c.args.after.now p) there (λ off. untouched_alike c.args.indexes.now
    c.args.touched.now c.args.before.now c.args.after.now p c.requires.same off)
