-- What search doesn't prove of `leaf_side`: the clause `bounds` and what it returns, by lemmas of `Rows` and
-- `RunLists`.
use Rattle.std.proofs.Common.{◌≡◌, true, false, sym, ◌∙◌}
use Rattle.search_plans.proofs.Rows.{if_ok_weaker}
use Rattle.search_plans.proofs.RunLists.{unknown_side, other_side, if_ok_both}
use Rattle.search_plans.proofs.leaves.leaf_side.Goals as goal

pub returns-in-Unknown-clause-bounds : goal.returns-in-Unknown-clause-bounds
returns-in-Unknown-clause-bounds c =
    if_ok_weaker _ _ (λ s h. unknown_side c.args.indexes.now c.args.leaf.now c.args.wanted s.must s.may
    c.if-wanted.false c.in-Unknown.is h) c.unknown_false.result c.unknown_false.ensures

pub returns-in_ok-sided-in_default : goal.returns-in_ok-sided-in_default
returns-in_ok-sided-in_default c = record {
  bounds = if_ok_both _ _ _
      (λ s m y. other_side c.args.indexes.now c.args.leaf.now c.args.wanted c.in_ok-sided-in_default.sided.must
      c.in_ok-sided-in_default.sided.may s.must s.may c.if-wanted.false c.in_default.not-Unknown
      (m c.args.indexes.now) (y c.args.indexes.now) c.in_ok-sided-in_default.ensures.bounds)
      c.turned.result c.turned.ensures.must c.turned.ensures.may;
  runs = if_ok_weaker _ _ (λ s m w e h. let never : false ≡ true = sym c.if-wanted.false ∙ w in cc) c.turned.result
      c.turned.ensures.must;
}
