-- The goals of `bounds` that no tactic closes, each by one lemma over plain lists.
use Rattle.std.proofs.lemmas.Result.{err_from_is_err_and}
use Rattle.ldap_filter.proofs.ldap_ber.Same.{plain_weaker}
use Rattle.ldap_requests.proofs.Exits.{bounds_flag, bounds_time}
use Rattle.ldap_requests.proofs.decoding_search.bounds.Goals as goal

pub returns-in_err-time-clause-fault : goal.returns-in_err-time-clause-fault
returns-in_err-time-clause-fault c =
    let p = err_from_is_err_and c.from_residual-in_err-time.result c.from_residual-in_err-time.ensures.1 in
    rw (p.1, p.2) (plain_weaker c.in_err-time.field-0.0 _ _ (bounds_time c.args.octets.now c.in_ok-size.octets.now _
    c.in_ok-size.ensures.found) c.in_err-time.ensures.fault)

pub returns-in_err-types_only-clause-fault : goal.returns-in_err-types_only-clause-fault
returns-in_err-types_only-clause-fault c =
    let p = err_from_is_err_and c.from_residual-in_err-types_only.result c.from_residual-in_err-types_only.ensures.1 in
    rw (p.1, p.2) (plain_weaker c.in_err-types_only.field-0.0 _ _ (bounds_flag c.args.octets.now
    c.in_ok-size.octets.now c.in_ok-time.octets.now _ _ c.in_ok-size.ensures.found c.in_ok-time.ensures.found)
    c.in_err-types_only.ensures.fault)
