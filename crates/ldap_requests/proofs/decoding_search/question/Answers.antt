-- The goals of `question` that no tactic closes, each by one lemma over plain lists.
use Rattle.std.proofs.lemmas.Result.{err_from_is_err_and}
use Rattle.ldap_requests.proofs.Exits.{from_filter, from_plain, has_filter, question_texts, question_end}
use Rattle.ldap_requests.proofs.decoding_search.question.Goals as goal

pub returns-in_err-filter-clause-fault : goal.returns-in_err-filter-clause-fault
returns-in_err-filter-clause-fault c =
    let p = err_from_is_err_and c.from_residual.result c.from_residual.ensures.1 in
    rw (p.1, p.2) (from_filter c.in_err-filter.field-0.0 c.args.octets.now c.in_err-filter.ensures.fault)

pub returns-in_err-attributes-clause-fault : goal.returns-in_err-attributes-clause-fault
returns-in_err-attributes-clause-fault c =
    let p = err_from_is_err_and c.from_residual-in_err-attributes.result c.from_residual-in_err-attributes.ensures.1 in
    rw (p.1, p.2) (from_plain c.in_err-attributes.field-0.0 _ _ _ (question_texts c.args.octets.now
    c.in_ok-filter.rest.now _ (has_filter _ c.args.octets.now c.in_ok-filter.ensures.found.0
    c.in_ok-filter.rest.now c.in_ok-filter.ensures.found.1 c.in_ok-filter.ensures.found.2))
    c.in_err-attributes.ensures.fault)

pub returns-in_err-elements-clause-fault : goal.returns-in_err-elements-clause-fault
returns-in_err-elements-clause-fault c =
    let p = err_from_is_err_and c.from_residual-in_err-elements.result c.from_residual-in_err-elements.ensures.1 in
    rw (p.1, p.2) (from_plain c.in_err-elements.field-0.0 _ _ _ (question_end c.args.octets.now
    c.in_ok-filter.rest.now c.in_ok-attributes.rest.now _ _ (has_filter _ c.args.octets.now
    c.in_ok-filter.ensures.found.0 c.in_ok-filter.rest.now c.in_ok-filter.ensures.found.1
    c.in_ok-filter.ensures.found.2) c.in_ok-attributes.ensures.found) c.in_err-elements.ensures.fault)
