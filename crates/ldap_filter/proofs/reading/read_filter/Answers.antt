-- The goals of `read_filter` that no tactic closes, each by one lemma over plain lists.
use Rattle.std.proofs.lemmas.Result.{err_from_is_err_and}
use Rattle.ldap_filter.specs.View.{view}
use Rattle.ldap_filter.proofs.Texts.{only_ok, only_err}
use Rattle.ldap_filter.proofs.reading.read_filter.Goals as goal

pub returns-in_err-filter-clause-only : goal.returns-in_err-filter-clause-only
returns-in_err-filter-clause-only c = λ t s rest is e deep many.
    let p = err_from_is_err_and c.from_residual.result c.from_residual.ensures.1 in
    rw (p.1, p.2) (only_err c.in_err-filter.field-0.0 128 512 c.args.octets.now s rest t c.in_err-filter.ensures.fault
    is e deep many)

pub returns-clause-only : goal.returns-clause-only
returns-clause-only c = λ t s rest is e deep many.
    only_ok 128 512 _ c.args.octets.now c.in_ok-filter.rest.now s rest (view c.in_ok-filter.filter) t
    c.in_ok-filter.ensures.found is e
