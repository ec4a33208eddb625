-- What search doesn't prove of `changed`: the clause `has` and the clause `rising`, by lemmas of `Numbers`.
use Rattle.std.proofs.Common.{Bool, cond, not, List, nat_eq, ap, ◌∙◌}
use Rattle.std.specs.Prelude.{◌&&◌}
use Rattle.index_choice.specs.declared.kinds.Kinds.{Kinds}
use Rattle.dir_index.specs.ListKeys.{key_of}
use Rattle.dir_index.specs.private.Marked.{has_posting, lists_entry}
use Rattle.dir_index.specs.private.Stored.{is_in}
use Rattle.dir_index.specs.private.Whole.{moved}
use Rattle.dir_index.proofs.Numbers.{both_steps}
use Rattle.dir_index.proofs.postings.changed.Goals as goal

pub returns-clause-has : goal.returns-clause-has
returns-clause-has c = λ rise p n.
    let b : Bool = has_posting c.in_ok-was.field-0.was.keys p in
    let a : Bool = has_posting c.in_ok-was.field-0.is.keys p in
    c.in_ok-now.ensures.has (c.in_ok-more.ensures.rising rise) p n
    ∙ ap (λ (i : Bool). i && not (nat_eq n c.args.number && (b && not a))) (c.in_ok-more.ensures.has p n)
    ∙ both_steps (nat_eq n c.args.number) b a (is_in c.args.lists (key_of p) n)
    ∙ ap (λ (x : Bool). cond (nat_eq n c.args.number) x (is_in c.args.lists (key_of p) n))
    (c.in_ok-was.ensures p (is_in c.args.lists (key_of p) n))
    ∙ ap (λ (ix : List Kinds). cond (nat_eq n c.args.number) (moved (lists_entry ix c.args.before.now p)
    (lists_entry ix c.args.after.now p) (is_in c.args.lists (key_of p) n)) (is_in c.args.lists (key_of p) n))
    c.indexes.ensures

pub returns-clause-rising : goal.returns-clause-rising
returns-clause-rising c = λ rise. c.in_ok-now.ensures.rising (c.in_ok-more.ensures.rising rise)
