-- The goals of `changes_of` that no tactic closes, each by one lemma over plain lists.
use Rattle.std.proofs.lemmas.Result.{err_from_is_err_and}
use Rattle.ldap_ber.proofs.Same.{field_shorter}
use Rattle.ldap_ber.proofs.RowLemmas.{goes_on_map, ends, fails, some_left, none_left}
use Rattle.ldap_parts.specs.UpdateView.{change_view}
use Rattle.ldap_parts.specs.UpdateGrammar.{HasChange}
use Rattle.ldap_parts.proofs.Modifies.{change_unique, change_some}
use Rattle.ldap_parts.proofs.decoding_modify.changes_of.Goals as goal

pub returns-in_err-change-clause-fault : goal.returns-in_err-change-clause-fault
returns-in_err-change-clause-fault c =
    let p = err_from_is_err_and c.from_residual.result c.from_residual.ensures.1 in
    rw (p.1, p.2) (fails HasChange c.in_err-change.field-0.0 c.args.content.now _ c.loop-rest.rest.now
    c.loop-rest.invariant (some_left c.is_empty.result _ c.is_empty.ensures c.loop-rest-test.true)
    c.in_err-change.ensures.fault)

pub loop-rest-preserved : goal.loop-rest-preserved
loop-rest-preserved c = goes_on_map change_view HasChange change_unique change_some c.args.content.now
    c.loop-rest.changes.items c.push.new.self.items c.loop-rest.rest.now c.in_ok-change.change
    c.in_ok-change.after.now c.loop-rest.invariant c.in_ok-push.ensures.items c.in_ok-change.ensures.found

pub loop-rest-smaller : goal.loop-rest-smaller
loop-rest-smaller c = field_shorter c.loop-rest.rest.now c.in_ok-change.ensures.found.content c.in_ok-change.after.now
    48 c.in_ok-change.ensures.found.field

pub returns-clause-found : goal.returns-clause-found
returns-clause-found c = ends HasChange c.args.content.now _ c.loop-rest.rest.now c.loop-rest.invariant
    (none_left c.is_empty.result _ c.is_empty.ensures c.loop-rest-test.false)
