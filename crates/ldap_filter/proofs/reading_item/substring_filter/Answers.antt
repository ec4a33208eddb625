-- The goals of `substring_filter` that no tactic closes, each by one lemma over plain lists.
use Rattle.std.proofs.Common.{refl, string_bytes}
use Rattle.std.proofs.lemmas.Result.{err_from_is_err_and}
use Rattle.ldap_ber.proofs.Same.{plain_weaker}
use Rattle.ldap_ber.proofs.RowLemmas.{some_left, none_left}
use Rattle.ldap_filter.proofs.Exits.{substrings_parts, substrings_end, substrings_inside, are_substrings}
use Rattle.ldap_filter.proofs.reading_item.substring_filter.Goals as goal

pub returns-in_err-octets-clause-fault : goal.returns-in_err-octets-clause-fault
returns-in_err-octets-clause-fault c =
    let p = err_from_is_err_and c.from_residual-in_err-octets.result c.from_residual-in_err-octets.ensures.1 in
    rw (p.1, p.2) (plain_weaker c.in_err-octets.field-0.0 _ _ (substrings_parts c.args.content.now
    c.in_ok-description.rest.now _ c.in_ok-description.ensures.found) c.in_err-octets.ensures.fault)

pub returns-then-not-is_empty-clause-fault : goal.returns-then-not-is_empty-clause-fault
returns-then-not-is_empty-clause-fault c = λ h.
    some_left c.is_empty.result _ c.is_empty.ensures c.if-not-is_empty.true
    (substrings_end c.args.content.now c.in_ok-description.rest.now c.in_ok-octets.rest.now _ _
    c.in_ok-description.ensures.found c.in_ok-octets.ensures.found h)

pub returns-in_err-parts-clause-fault : goal.returns-in_err-parts-clause-fault
returns-in_err-parts-clause-fault c =
    let p = err_from_is_err_and c.from_residual-in_err-parts.result c.from_residual-in_err-parts.ensures.1 in
    rw (p.1, p.2) (plain_weaker c.in_err-parts.field-0.0 _ _ (substrings_inside c.args.content.now
    c.in_ok-description.rest.now c.in_ok-octets.rest.now _ _ c.in_ok-description.ensures.found
    c.in_ok-octets.ensures.found) c.in_err-parts.ensures.fault)

pub returns-clause-found : goal.returns-clause-found
returns-clause-found c =
    are_substrings c.args.content.now c.in_ok-description.rest.now c.in_ok-octets.rest.now _ _ _ refl
    c.in_ok-description.ensures.found c.in_ok-octets.ensures.found (none_left c.is_empty.result _
    c.is_empty.ensures c.if-not-is_empty.false)
    (c.in_ok-parts.ensures.found (string_bytes c.in_ok-description.description))
