-- The goals of `elements` that no tactic closes, each by one lemma over plain lists.
use Rattle.std.proofs.lemmas.Result.{err_from_is_err_and}
use Rattle.ldap_ber.proofs.RowLemmas.{passed_one, passed_all, passed_fault, some_left, none_left}
use Rattle.ldap_ber.proofs.rows.elements.Goals as goal

pub returns-in_err-after-clause-fault : goal.returns-in_err-after-clause-fault
returns-in_err-after-clause-fault c =
    let p = err_from_is_err_and c.from_residual.result c.from_residual.ensures.1 in
    rw (p.1, p.2) (passed_fault c.in_err-after.field-0.0 c.args.content.now c.loop-rest.rest.now c.loop-rest.invariant
    (some_left c.is_empty.result _ c.is_empty.ensures c.loop-rest-test.true) c.in_err-after.ensures.fault)

pub loop-rest-preserved : goal.loop-rest-preserved
loop-rest-preserved c = passed_one c.args.content.now c.loop-rest.rest.now c.in_ok-after.field-0-0.content.now
    c.in_ok-after.after.now c.in_ok-after.field-0-0.first c.loop-rest.invariant c.in_ok-after.ensures.found

pub returns-clause-found : goal.returns-clause-found
returns-clause-found c = passed_all c.args.content.now c.loop-rest.rest.now c.loop-rest.invariant
    (none_left c.is_empty.result _ c.is_empty.ensures c.loop-rest-test.false)
