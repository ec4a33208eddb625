-- Wire, requests: the goals of `target` that no tactic closes, each by one lemma over plain lists.
use Rattle.std.proofs.lemmas.Result.{err_from_is_err_and}
use Rattle.ldap_filter.proofs.ldap_ber.Same.{plain_weaker}
use Rattle.ldap_requests.proofs.Exits.{target_deref, target_scope}
use Rattle.ldap_requests.proofs.decoding_search.target.Goals as goal

pub returns-in_err-scope-clause-fault : goal.returns-in_err-scope-clause-fault
returns-in_err-scope-clause-fault c =
    let p = err_from_is_err_and c.from_residual-in_err-scope.result c.from_residual-in_err-scope.ensures.1 in
    rw (p.1, p.2) (plain_weaker c.in_err-scope.field-0.0 _ _ (target_scope c.args.octets.now c.in_ok-base.octets.now _
    c.in_ok-base.ensures.found) c.in_err-scope.ensures.fault)

pub returns-in_err-deref-clause-fault : goal.returns-in_err-deref-clause-fault
returns-in_err-deref-clause-fault c =
    let p = err_from_is_err_and c.from_residual-in_err-deref.result c.from_residual-in_err-deref.ensures.1 in
    rw (p.1, p.2) (plain_weaker c.in_err-deref.field-0.0 _ _ (target_deref c.args.octets.now c.in_ok-base.octets.now
    c.in_ok-scope.octets.now _ _ c.in_ok-base.ensures.found c.in_ok-scope.ensures.found)
    c.in_err-deref.ensures.fault)
