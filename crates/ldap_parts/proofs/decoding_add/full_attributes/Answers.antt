-- The goals of `full_attributes` that no tactic closes, each by one lemma over plain lists.
use Rattle.std.proofs.lemmas.Result.{err_from_is_err_and}
use Rattle.ldap_ber.proofs.Same.{field_shorter}
use Rattle.ldap_ber.proofs.RowLemmas.{goes_on_map, ends, fails, some_left, none_left}
use Rattle.ldap_parts.specs.View.{attribute_view}
use Rattle.ldap_parts.specs.UpdateGrammar.{HasAttribute}
use Rattle.ldap_parts.proofs.UpdatesUnique.{full_unique, full_some}
use Rattle.ldap_parts.proofs.decoding_add.full_attributes.Goals as goal

pub returns-in_err-attribute-clause-fault : goal.returns-in_err-attribute-clause-fault
returns-in_err-attribute-clause-fault c =
    let p = err_from_is_err_and c.from_residual.result c.from_residual.ensures.1 in
    rw (p.1, p.2) (fails HasAttribute c.in_err-attribute.field-0.0 c.args.content.now _ c.loop-rest.rest.now
    c.loop-rest.invariant (some_left c.is_empty.result _ c.is_empty.ensures c.loop-rest-test.true)
    c.in_err-attribute.ensures.fault)

pub loop-rest-preserved : goal.loop-rest-preserved
loop-rest-preserved c = goes_on_map attribute_view HasAttribute full_unique full_some c.args.content.now
    c.loop-rest.attributes.items c.push.new.self.items c.loop-rest.rest.now c.in_ok-attribute.attribute
    c.in_ok-attribute.after.now c.loop-rest.invariant c.in_ok-push.ensures.items c.in_ok-attribute.ensures.found

pub loop-rest-smaller : goal.loop-rest-smaller
loop-rest-smaller c = field_shorter c.loop-rest.rest.now c.in_ok-attribute.ensures.found.content
    c.in_ok-attribute.after.now 48 c.in_ok-attribute.ensures.found.field

pub returns-clause-found : goal.returns-clause-found
returns-clause-found c = ends HasAttribute c.args.content.now _ c.loop-rest.rest.now c.loop-rest.invariant
    (none_left c.is_empty.result _ c.is_empty.ensures c.loop-rest-test.false)
