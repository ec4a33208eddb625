-- The goals of `matching_rule_assertion` that no tactic closes, each by one lemma over plain lists.
use Rattle.std.proofs.lemmas.Result.{err_from_is_err_and}
use Rattle.ldap_ber.proofs.Same.{plain_weaker}
use Rattle.ldap_ber.proofs.RowLemmas.{some_left}
use Rattle.ldap_filter.proofs.Exits.{extensible_description, extensible_value, extensible_flag, extensible_end}
use Rattle.ldap_filter.proofs.reading_item.matching_rule_assertion.Goals as goal

pub returns-in_err-description-clause-fault : goal.returns-in_err-description-clause-fault
returns-in_err-description-clause-fault c =
    let p = err_from_is_err_and c.from_residual-in_err-description.result c.from_residual-in_err-description.ensures.1
    in
    rw (p.1, p.2) (plain_weaker c.in_err-description.field-0.0 _ _ (extensible_description c.args.content.now
    c.in_ok-matching_rule.rest.now _ c.in_ok-matching_rule.ensures.found) c.in_err-description.ensures.fault)

pub returns-in_err-match_value-clause-fault : goal.returns-in_err-match_value-clause-fault
returns-in_err-match_value-clause-fault c =
    let p = err_from_is_err_and c.from_residual-in_err-match_value.result c.from_residual-in_err-match_value.ensures.1
    in
    rw (p.1, p.2) (plain_weaker c.in_err-match_value.field-0.0 _ _ (extensible_value c.args.content.now
    c.in_ok-matching_rule.rest.now c.in_ok-description.rest.now _ _ c.in_ok-matching_rule.ensures.found
    c.in_ok-description.ensures.found) c.in_err-match_value.ensures.fault)

pub returns-in_err-dn_attributes-clause-fault : goal.returns-in_err-dn_attributes-clause-fault
returns-in_err-dn_attributes-clause-fault c =
    let p = err_from_is_err_and c.from_residual-in_err-dn_attributes.result
    c.from_residual-in_err-dn_attributes.ensures.1 in
    rw (p.1, p.2) (plain_weaker c.in_err-dn_attributes.field-0.0 _ _ (extensible_flag c.args.content.now
    c.in_ok-matching_rule.rest.now c.in_ok-description.rest.now c.in_ok-match_value.rest.now _ _ _
    c.in_ok-matching_rule.ensures.found c.in_ok-description.ensures.found c.in_ok-match_value.ensures.found)
    c.in_err-dn_attributes.ensures.fault)

pub returns-then-not-is_empty-clause-fault : goal.returns-then-not-is_empty-clause-fault
returns-then-not-is_empty-clause-fault c = λ h.
    some_left c.is_empty.result _ c.is_empty.ensures c.if-not-is_empty.true
    (extensible_end c.args.content.now c.in_ok-matching_rule.rest.now c.in_ok-description.rest.now
    c.in_ok-match_value.rest.now c.in_ok-dn_attributes.rest.now _ _ _ _ c.in_ok-matching_rule.ensures.found
    c.in_ok-description.ensures.found c.in_ok-match_value.ensures.found c.in_ok-dn_attributes.ensures.found h)
