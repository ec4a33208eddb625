-- The goals of `assertion` that no tactic closes, each by one lemma over plain lists.
use Rattle.std.specs.Prelude.{string_bytes}
use Rattle.std.proofs.lemmas.Result.{err_from_is_err_and}
use Rattle.ldap_ber.proofs.Same.{plain_weaker}
use Rattle.ldap_ber.proofs.RowLemmas.{some_left}
use Rattle.ldap_filter.proofs.Texts.{no_second, no_more}
use Rattle.ldap_filter.proofs.reading_item.assertion.Goals as goal

pub returns-in_err-assertion-clause-fault : goal.returns-in_err-assertion-clause-fault
returns-in_err-assertion-clause-fault c =
    let p = err_from_is_err_and c.from_residual-in_err-assertion.result c.from_residual-in_err-assertion.ensures.1 in
    rw (p.1, p.2) (plain_weaker c.in_err-assertion.field-0.0 _ _
    (no_second c.args.content.now (string_bytes c.in_ok-description.description) c.in_ok-description.rest.now
    c.in_ok-description.ensures.found) c.in_err-assertion.ensures.fault)

pub returns-then-not-is_empty-clause-fault : goal.returns-then-not-is_empty-clause-fault
returns-then-not-is_empty-clause-fault c =
    no_more c.args.content.now (string_bytes c.in_ok-description.description) c.in_ok-description.rest.now
    c.in_ok-assertion.assertion.items c.in_ok-assertion.rest.now c.in_ok-description.ensures.found
    c.in_ok-assertion.ensures.found (some_left c.is_empty.result _ c.is_empty.ensures c.if-not-is_empty.true)
