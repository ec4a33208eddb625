-- What search doesn't prove of `put_part`: the clause `too_long`, `loop-value-preserved` and the clause `kept`, by
-- lemmas of `ShownValues` and `Puts` (`ldap_msg`).
use Rattle.std.proofs.Common.{◌∙◌}
use Rattle.std.proofs.lemmas.Result.{err_from_is_err_and}
use Rattle.ldap_msg.proofs.ldap_ber.Puts.{kept_front}
use Rattle.directory_api.proofs.ShownValues.{value_step, value_long}
use Rattle.directory_api.proofs.shown_values.put_part.Goals as goal

pub returns-in_err-write-clause-too_long : goal.returns-in_err-write-clause-too_long
returns-in_err-write-clause-too_long c =
    let p = err_from_is_err_and c.from_residual.result c.from_residual.ensures.1 in
    rw (p.1, p.2) (λ h. value_long c.args.values.now c.loop-value.value-index c.value-item.result 4294967296
    c.loop-value-test.true c.value-item.is (rw c.as_slice.ensures at (c.in_err-write.ensures.too_long.0 h)))

pub loop-value-preserved : goal.loop-value-preserved
loop-value-preserved c =
    value_step c.args.out.now.items c.loop-value.out.items c.write.new.out.items c.args.values.now
    c.loop-value.value-index c.value-item.result c.loop-value-test.true c.value-item.is c.loop-value.invariant
    (rw c.as_slice.ensures at c.in_ok-write.ensures.ok)

pub returns-in_err-write-clause-kept : goal.returns-in_err-write-clause-kept
returns-in_err-write-clause-kept c = kept_front _ _ _ (c.in_err-write.ensures.err ∙ c.loop-value.invariant)

pub returns-clause-kept : goal.returns-clause-kept
returns-clause-kept c = kept_front _ _ _ c.loop-value.invariant
