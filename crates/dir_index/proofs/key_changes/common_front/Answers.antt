-- What search doesn't prove of `common_front`: the loop, by a lemma of `Changed`.
use Rattle.std.proofs.Common.{ℕ, List, Bor, arith, sym, ◌∙◌}
use Rattle.dir_index.proofs.Changed.{front_step}
use Rattle.dir_index.proofs.key_changes.common_front.Goals as goal

pub loop-count-preserved : goal.loop-count-preserved
loop-count-preserved c = record {
  earlier = omega arith;
  later = omega arith;
  same = λ f h. c.loop-count.invariant.same f
      (front_step {A = Bor (List ℕ)} (λ (k : Bor (List ℕ)). k.now) f c.args.before.now c.args.after.now c.loop-count.count
      c.loop-count.count c.index-before-count.result c.index-after-count.result c.loop-count-test.true
      c.if-count-after.true c.index-before-count.is c.index-after-count.is (sym c.is_same.ensures
      ∙ c.if-not-is_same.false) h);
}
