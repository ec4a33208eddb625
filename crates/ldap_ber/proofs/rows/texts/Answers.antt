-- The goals of `texts` that no tactic closes, each by one lemma over plain lists.
use Rattle.std.proofs.lemmas.Result.{err_from_is_err_and}
use Rattle.ldap_ber.proofs.Same.{text_unique, text_part, text_some}
use Rattle.ldap_ber.proofs.RowLemmas.{goes_on_map, ends, fails, some_left, none_left}
use Rattle.ldap_ber.proofs.rows.texts.Goals as goal

pub returns-in_err-text-clause-fault : goal.returns-in_err-text-clause-fault
returns-in_err-text-clause-fault c =
    let p = err_from_is_err_and c.from_residual.result c.from_residual.ensures.1 in
    rw (p.1, p.2) (fails text_part c.in_err-text.field-0.0 c.args.content.now _ c.loop-rest.rest.now
    c.loop-rest.invariant (some_left c.is_empty.result _ c.is_empty.ensures c.loop-rest-test.true)
    c.in_err-text.ensures.fault)

pub loop-rest-preserved : goal.loop-rest-preserved
loop-rest-preserved c = goes_on_map _ text_part (text_unique 4) text_some c.args.content.now c.loop-rest.texts.items
    c.push.new.self.items c.loop-rest.rest.now c.in_ok-text.text c.in_ok-text.after.now c.loop-rest.invariant
    c.in_ok-push.ensures.items c.in_ok-text.ensures.found

pub returns-clause-found : goal.returns-clause-found
returns-clause-found c = ends text_part c.args.content.now _ c.loop-rest.rest.now c.loop-rest.invariant
    (none_left c.is_empty.result _ c.is_empty.ensures c.loop-rest-test.false)
