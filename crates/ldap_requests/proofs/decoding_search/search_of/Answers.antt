-- The goals of `search_of` that no tactic closes, each by one lemma over plain lists.
use Rattle.std.proofs.lemmas.Result.{err_from_is_err_and}
use Rattle.ldap_requests.proofs.Exits.{from_plain, limit_weaker, search_bounds, search_question, stands_at}
use Rattle.ldap_requests.proofs.decoding_search.search_of.Goals as goal

pub returns-in_err-size_limit-clause-fault : goal.returns-in_err-size_limit-clause-fault
returns-in_err-size_limit-clause-fault c =
    let p = err_from_is_err_and c.from_residual-in_err-size_limit.result c.from_residual-in_err-size_limit.ensures.1 in
    rw (p.1, p.2) (from_plain c.in_err-size_limit.field-0.0 _ _ _ (search_bounds c.args.content.now
    c.in_ok-base.rest.now _ _ _ c.in_ok-base.ensures.found) c.in_err-size_limit.ensures.fault)

pub returns-in_err-filter-clause-fault : goal.returns-in_err-filter-clause-fault
returns-in_err-filter-clause-fault c =
    let p = err_from_is_err_and c.from_residual-in_err-filter.result c.from_residual-in_err-filter.ensures.1 in
    rw (p.1, p.2) (limit_weaker c.in_err-filter.field-0.0 _ _ _ _ (search_question c.args.content.now
    c.in_ok-base.rest.now c.in_ok-size_limit.rest.now _ _ _ _ _ _ c.in_ok-base.ensures.found
    c.in_ok-size_limit.ensures.found) (stands_at c.args.content.now c.in_ok-base.rest.now
    c.in_ok-size_limit.rest.now _ _ _ _ _ _ c.in_ok-base.ensures.found c.in_ok-size_limit.ensures.found)
    c.in_err-filter.ensures.fault)
