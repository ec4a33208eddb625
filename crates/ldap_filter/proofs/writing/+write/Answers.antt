-- The goals of `write` that no tactic closes, each by one lemma over plain lists.
use Rattle.std.proofs.lemmas.Result.{err_from_is_err_and}
use Rattle.ldap_filter.proofs.Written.{row_step, row_long}
use Rattle.ldap_filter.proofs.writing.+write.Goals as goal

pub put_row-loop-filter-preserved : goal.put_row-loop-filter-preserved
put_row-loop-filter-preserved t c =
    row_step c.args.out.now.items c.loop-filter.out.items c.put_filter.new.out.items c.args.filters.now
    c.loop-filter.filter-index c.filter-item.result c.loop-filter-test.true c.filter-item.is
    c.loop-filter.invariant c.in_ok-put_filter.ensures.ok

pub put_row-returns-in_err-put_filter-clause-too_long : goal.put_row-returns-in_err-put_filter-clause-too_long
put_row-returns-in_err-put_filter-clause-too_long t c =
    let p = err_from_is_err_and c.from_residual.result c.from_residual.ensures.1 in
    rw (p.1, p.2) (λ h. row_long c.args.filters.now c.loop-filter.filter-index c.filter-item.result 4294967296
    c.loop-filter-test.true c.filter-item.is (c.in_err-put_filter.ensures.too_long h))
