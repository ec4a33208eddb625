-- What search doesn't prove of `enlisted`: the clause `is` and the clause `rising`, by lemmas of `Lookups` and
-- `Numbers`.
use Rattle.std.proofs.Common.{◌≡◌, cond, refl, sym, ap, ◌∙◌, subst}
use Rattle.std.specs.Ordering.{nat_cmp}
use Rattle.std.specs.BTreeSet.{insert_key}
use Rattle.dir_index.specs.declared.list_key.ListKey.{ListKey}
use Rattle.dir_index.specs.Postings.{IsRising}
use Rattle.dir_index.specs.ListKeys.{key_of, is_same_list}
use Rattle.dir_index.specs.Stored.{list_at}
use Rattle.dir_index.proofs.Lookups.{list-insert}
use Rattle.dir_index.proofs.Numbers.{rise_enlisted}
use Rattle.dir_index.proofs.lists.enlisted.Goals as goal

written : (c : goal.In_ok-now) (k : ListKey) → list_at c.in_ok-now.now k ≡ cond (is_same_list c.args.key.now k)
    (insert_key nat_cmp (list_at c.args.lists c.args.key.now) c.args.number) (list_at c.args.lists k)
written c k =
    ap (λ l. list_at l k) c.in_ok-now.ensures ∙ list-insert c.args.lists c.args.key.now
    (insert_key nat_cmp (list_at c.args.lists c.args.key.now) c.args.number) k

pub returns-clause-is : goal.returns-clause-is
returns-clause-is c = λ k. written c k

pub returns-clause-rising : goal.returns-clause-rising
returns-clause-rising c = λ old p.
    subst IsRising (sym (written c (key_of p))) (rise_enlisted c.args.lists c.args.key.now (key_of p) c.args.number
    (is_same_list c.args.key.now (key_of p)) refl (old p))
