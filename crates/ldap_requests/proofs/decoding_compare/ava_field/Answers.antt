-- The goals of `ava_field` that no tactic closes, each by one lemma over plain lists.
use Rattle.std.proofs.lemmas.Result.{err_from_is_err_and}
use Rattle.ldap_filter.proofs.ldap_ber.Same.{plain_weaker}
use Rattle.ldap_filter.proofs.ldap_ber.RowLemmas.{part_inside}
use Rattle.ldap_requests.specs.Grammar.{IsAva}
use Rattle.ldap_requests.proofs.decoding_compare.ava_field.Goals as goal

pub returns-in_err-ava-clause-fault : goal.returns-in_err-ava-clause-fault
returns-in_err-ava-clause-fault c =
    let p = err_from_is_err_and c.from_residual-in_err-ava.result c.from_residual-in_err-ava.ensures.1 in
    rw (p.1, p.2) (plain_weaker c.in_err-ava.field-0.0 _ _ (part_inside IsAva c.args.octets.now
    c.in_ok-content.content.now c.in_ok-content.rest.now 48 c.in_ok-content.ensures.found)
    c.in_err-ava.ensures.fault)
