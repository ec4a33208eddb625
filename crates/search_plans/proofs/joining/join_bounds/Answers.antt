-- What search doesn't prove of `join_bounds`: `loop-i-preserved`, step by step.
use Rattle.std.proofs.Common.{◌∙◌, arith}
use Rattle.search_plans.proofs.joining.join_bounds.Goals as goal

pub loop-i-preserved : goal.loop-i-preserved
loop-i-preserved c = record {
  same = λ ix e. c.in_ok-push_joined.ensures.same ix e ∙ c.loop-i.invariant.same ix e;
  within = omega (arith, c.in_ok-push_joined.ensures.longer);
}
