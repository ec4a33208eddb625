-- What search doesn't prove of `has_equal`: what it returns and `loop-item-preserved`, by lemmas of `Twice`.
use Rattle.std.proofs.Common.{◌≡◌, Bool, true, false, not, refl, sym, ap, ◌∙◌}
use Rattle.std.specs.Cmp.{eq_by_cmp_equiv}
use Rattle.std.specs.Ordering.{eq_by_cmp}
use Rattle.std.specs.BTreeSet.{contains}
use Rattle.dir_entry.proofs.Twice.{twice_found, once_more, seen_more}
use Rattle.dir_entry.proofs.repeats.has_equal.Goals as goal

not_true : (b r : Bool) → r ≡ not b → not r ≡ true → b ≡ true
not_true true r e h = refl
not_true false r e h = absurd (cc)

not_false : (b r : Bool) → r ≡ not b → not r ≡ false → b ≡ false
not_false false r e h = refl
not_false true r e h = absurd (cc)

pub returns-then-not-branch : goal.returns-then-not-branch
returns-then-not-branch g c =
    sym (twice_found (eq_by_cmp g.K.Ord.cmp) (eq_by_cmp_equiv g.met.K.Ord.total).symm c.args.list.now
    c.loop-item.item-index c.item-item.result c.loop-item-test.true c.item-item.is
    (sym (c.loop-item.invariant.1 c.item-item.result) ∙ not_true _ _ c.in_ok-insert.ensures.added
    (ap not c.if-not-branch.true)))

pub loop-item-preserved : goal.loop-item-preserved
loop-item-preserved g c = (
  once_more (eq_by_cmp g.K.Ord.cmp) (eq_by_cmp_equiv g.met.K.Ord.total).symm c.args.list.now c.loop-item.item-index
      c.item-item.result c.loop-item-test.true c.item-item.is c.loop-item.invariant.0
      (sym (c.loop-item.invariant.1 c.item-item.result) ∙ not_false _ _ c.in_ok-insert.ensures.added
      (ap not c.if-not-branch.false)),
  seen_more (eq_by_cmp g.K.Ord.cmp) (eq_by_cmp_equiv g.met.K.Ord.total).symm c.args.list.now c.loop-item.item-index
      c.item-item.result (contains g.K.Ord.cmp c.loop-item.seen) (contains g.K.Ord.cmp c.insert.new.self)
      c.loop-item-test.true
      c.item-item.is c.loop-item.invariant.1 c.in_ok-insert.ensures.updates.0,
)
