-- What search doesn't prove of `rewritten`: the clause `is` and the clause `rising`, by lemmas of `Lookups` and
-- `Numbers`.
use Rattle.std.proofs.Common.{◌≡◌, [], cond, sym, ap, ◌∙◌, subst, List, ℕ}
use Rattle.dir_index.specs.declared.list_key.ListKey.{ListKey}
use Rattle.dir_index.specs.Postings.{IsRising}
use Rattle.dir_index.specs.ListKeys.{key_of, is_same_list}
use Rattle.dir_index.specs.Stored.{list_at}
use Rattle.dir_index.proofs.Lookups.{list-insert, list-remove}
use Rattle.dir_index.proofs.Numbers.{rise_either, none_of_length}
use Rattle.dir_index.proofs.lists.rewritten.Goals as goal

pub returns-then-is_empty-clause-is : goal.returns-then-is_empty-clause-is
returns-then-is_empty-clause-is c = λ k.
    ap (λ l. list_at l k) c.in_ok-fewer.ensures ∙ list-remove c.args.lists c.args.key.now k c.rises.ensures
    ∙ ap (λ (v : List ℕ). cond (is_same_list c.args.key.now k) v (list_at c.args.lists k))
    (none_of_length c.args.numbers (sym c.is_empty.ensures ∙ c.if-is_empty.true))

pub returns-then-is_empty-clause-rising : goal.returns-then-is_empty-clause-rising
returns-then-is_empty-clause-rising c = λ old p.
    subst IsRising (sym (ap (λ l. list_at l (key_of p)) c.in_ok-fewer.ensures ∙ list-remove c.args.lists
    c.args.key.now (key_of p) c.rises.ensures))
    (rise_either (is_same_list c.args.key.now (key_of p)) [] (list_at c.args.lists (key_of p)) tt (old p))

written : (c : goal.In_ok-now) (k : ListKey) → list_at c.in_ok-now.now k ≡ cond (is_same_list c.args.key.now k)
    c.args.numbers (list_at c.args.lists k)
written c k =
    ap (λ l. list_at l k) c.in_ok-now.ensures ∙ list-insert c.args.lists c.in_ok-share.field-0 c.args.numbers k
    ∙ ap (λ j. cond (is_same_list j k) c.args.numbers (list_at c.args.lists k)) c.in_ok-share.ensures

pub returns-clause-is : goal.returns-clause-is
returns-clause-is c = λ k. written c k

pub returns-clause-rising : goal.returns-clause-rising
returns-clause-rising c = λ old p.
    subst IsRising (sym (written c (key_of p))) (rise_either (is_same_list c.args.key.now (key_of p)) c.args.numbers
    (list_at c.args.lists (key_of p)) c.rises-2.ensures (old p))
