-- The goals of `compare_of` that no tactic closes, each by one lemma over plain lists.
use Rattle.std.proofs.lemmas.Result.{err_from_is_err_and}
use Rattle.ldap_filter.proofs.ldap_ber.Same.{plain_weaker}
use Rattle.ldap_requests.proofs.Compares.{compare_ava, compare_end}
use Rattle.ldap_requests.proofs.decoding_compare.compare_of.Goals as goal

pub returns-in_err-ava-clause-fault : goal.returns-in_err-ava-clause-fault
returns-in_err-ava-clause-fault c =
    let p = err_from_is_err_and c.from_residual-in_err-ava.result c.from_residual-in_err-ava.ensures.1 in
    rw (p.1, p.2) (plain_weaker c.in_err-ava.field-0.0 _ _ (compare_ava c.args.content.now c.in_ok-entry.rest.now _
    c.in_ok-entry.ensures.found) c.in_err-ava.ensures.fault)

pub returns-in_err-elements-clause-fault : goal.returns-in_err-elements-clause-fault
returns-in_err-elements-clause-fault c =
    let p = err_from_is_err_and c.from_residual-in_err-elements.result c.from_residual-in_err-elements.ensures.1 in
    rw (p.1, p.2) (plain_weaker c.in_err-elements.field-0.0 _ _ (compare_end c.args.content.now c.in_ok-entry.rest.now
    c.in_ok-ava.rest.now _ _ c.in_ok-entry.ensures.found c.in_ok-ava.ensures.found) c.in_err-elements.ensures.fault)
