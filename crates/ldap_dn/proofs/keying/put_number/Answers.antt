-- What search doesn't prove of `put_number`: `loop-left-preserved`, by lemmas of `KeysTold`.
use Rattle.std.proofs.Common.{arith}
use Rattle.std.proofs.lemmas.Grind.{common_steps}
use Rattle.ldap_dn.proofs.KeysTold.{digit_more}
use Rattle.ldap_dn.proofs.keying.put_number.Goals as goal

pub loop-left-preserved : goal.loop-left-preserved
loop-left-preserved c = (
  digit_more c.loop-left.left c.loop-left.out.items c.push.new.self.items c.push-in-loop-left.new.self.items _
      c.loop-left-test.true
      c.in_ok-push.ensures.items c.in_ok-push-2.ensures.items c.loop-left.invariant.0,
  grind (arith, common_steps),
)
