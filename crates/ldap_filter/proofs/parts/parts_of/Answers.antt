-- The goals of `parts_of` that no tactic closes, each by one lemma over plain lists.
use Rattle.std.proofs.lemmas.Result.{err_from_is_err_and}
use Rattle.ldap_ber.proofs.Same.{plain_weaker}
use Rattle.ldap_ber.proofs.RowLemmas.{some_left, none_left}
use Rattle.ldap_filter.proofs.Exits.{parts_initial, parts_any, parts_last, parts_end, are_parts}
use Rattle.ldap_filter.proofs.parts.parts_of.Goals as goal

pub returns-in_err-initial-clause-fault : goal.returns-in_err-initial-clause-fault
returns-in_err-initial-clause-fault c =
    let p = err_from_is_err_and c.from_residual.result c.from_residual.ensures.1 in
    rw (p.1, p.2) (plain_weaker c.in_err-initial.field-0.0 _ _ (parts_initial c.args.octets.now)
    c.in_err-initial.ensures.fault)

pub returns-in_err-any-clause-fault : goal.returns-in_err-any-clause-fault
returns-in_err-any-clause-fault c =
    let p = err_from_is_err_and c.from_residual-in_err-any.result c.from_residual-in_err-any.ensures.1 in
    rw (p.1, p.2) (plain_weaker c.in_err-any.field-0.0 _ _ (parts_any c.args.octets.now c.in_ok-initial.rest.now _
    c.in_ok-initial.ensures.found) c.in_err-any.ensures.fault)

pub returns-in_err-last-clause-fault : goal.returns-in_err-last-clause-fault
returns-in_err-last-clause-fault c =
    let p = err_from_is_err_and c.from_residual-in_err-last.result c.from_residual-in_err-last.ensures.1 in
    rw (p.1, p.2) (plain_weaker c.in_err-last.field-0.0 _ _ (parts_last c.args.octets.now c.in_ok-initial.rest.now
    c.in_ok-any.rest.now _ _ c.in_ok-initial.ensures.found c.in_ok-any.ensures.found) c.in_err-last.ensures.fault)

pub returns-then-not-is_empty-clause-fault : goal.returns-then-not-is_empty-clause-fault
returns-then-not-is_empty-clause-fault c = λ h.
    some_left c.is_empty-2.result _ c.is_empty-2.ensures c.if-not-is_empty.true
    (parts_end c.args.octets.now c.in_ok-initial.rest.now c.in_ok-any.rest.now c.in_ok-last.rest.now _ _ _
    c.in_ok-initial.ensures.found c.in_ok-any.ensures.found c.in_ok-last.ensures.found h)

pub returns-clause-found : goal.returns-clause-found
returns-clause-found c = λ d.
    are_parts c.args.octets.now c.in_ok-initial.rest.now c.in_ok-any.rest.now c.in_ok-last.rest.now d _ _ _
    (some_left c.is_empty.result _ c.is_empty.ensures c.if-is_empty.false)
    c.in_ok-initial.ensures.found c.in_ok-any.ensures.found c.in_ok-last.ensures.found (none_left c.is_empty-2.result
    _ c.is_empty-2.ensures c.if-not-is_empty.false)
