-- Filter texts, reading: the goals of `+filter` that no tactic closes, each by one lemma over plain lists.
use Rattle.std.proofs.Common.{◌≡◌, ◌∷◌, ◌++◌, [], sym, subst, ap, ◌∙◌, arith, rules}
use Rattle.std.proofs.lemmas.Result.{err_from_is_err_and}
use Rattle.ldap_filter.specs.Tree.{conj, disj, negation, Trees}
use Rattle.ldap_filter.specs.View.{view}
use Rattle.ldap_filter.specs.private.View.{views}
use Rattle.ldap_filter.specs.declared.tree.Filter.{And, Or, Not, the_lemmas}
use Rattle.filter_text.proofs.Rows.{SoFar, views_push, goes_on, ends, never_ends, row_fails, conj_reads, disj_reads, negation_reads, conj_fails, disj_fails, negation_fails, negation_open, not_opened, some_depth, some_count}
use Rattle.filter_text.proofs.reading.+filter.Goals as goal

pub and_of-returns-in_err-filters-clause-fault : goal.and_of-returns-in_err-filters-clause-fault
and_of-returns-in_err-filters-clause-fault t c =
    let p = err_from_is_err_and c.from_residual.result c.from_residual.ensures.1 in
    rw (p.1, p.2) (conj_fails c.in_err-filters.field-0.0 c.args.depth c.args.items c.args.text.now
    c.in_err-filters.ensures.fault)

pub and_of-returns-clause-found : goal.and_of-returns-clause-found
and_of-returns-clause-found t c =
    let seen : view (And c.in_ok-filters.filters) ≡ conj (views c.in_ok-filters.filters.items) =
    search (rules, the_lemmas) in
    rw seen (conj_reads c.args.depth c.args.items c.args.text.now (views c.in_ok-filters.filters.items)
    c.in_ok-filters.left c.in_ok-filters.rest.now c.in_ok-filters.ensures.found)

pub or_of-returns-in_err-filters-clause-fault : goal.or_of-returns-in_err-filters-clause-fault
or_of-returns-in_err-filters-clause-fault t c =
    let p = err_from_is_err_and c.from_residual.result c.from_residual.ensures.1 in
    rw (p.1, p.2) (disj_fails c.in_err-filters.field-0.0 c.args.depth c.args.items c.args.text.now
    c.in_err-filters.ensures.fault)

pub or_of-returns-clause-found : goal.or_of-returns-clause-found
or_of-returns-clause-found t c =
    let seen : view (Or c.in_ok-filters.filters) ≡ disj (views c.in_ok-filters.filters.items) =
    search (rules, the_lemmas) in
    rw seen (disj_reads c.args.depth c.args.items c.args.text.now (views c.in_ok-filters.filters.items)
    c.in_ok-filters.left c.in_ok-filters.rest.now c.in_ok-filters.ensures.found)

pub not_of-returns-in_err-inner-clause-fault : goal.not_of-returns-in_err-inner-clause-fault
not_of-returns-in_err-inner-clause-fault t c =
    let p = err_from_is_err_and c.from_residual.result c.from_residual.ensures.1 in
    rw (p.1, p.2) (negation_fails c.in_err-inner.field-0.0 c.args.depth c.args.items c.args.text.now
    c.in_err-inner.ensures.fault)

pub not_of-returns-in-None-clause-fault : goal.not_of-returns-in-None-clause-fault
not_of-returns-in-None-clause-fault t c = negation_open c.args.depth c.args.items c.args.text.now
    (view c.in_ok-inner.inner) c.in_ok-inner.left c.in_ok-inner.after.now c.in_ok-inner.ensures.found c.in-None.ensures

pub not_of-returns-clause-found : goal.not_of-returns-clause-found
not_of-returns-clause-found t c =
    let inner = c.in_ok-inner-2.inner in
    let seen : view (Not inner) ≡ negation (view inner.value) = search (rules, the_lemmas) in
    let kept : inner.value ≡ c.in_ok-inner.inner = c.in_ok-inner-2.ensures.ok in
    rw (seen, kept) (negation_reads c.args.depth c.args.items c.args.text.now (view c.in_ok-inner.inner)
    c.in_ok-inner.left c.in_ok-inner.after.now c.in-Some.rest.now c.in_ok-inner.ensures.found c.in-Some.ensures)

pub filter_of-returns-then-depth-eq0-clause-fault : goal.filter_of-returns-then-depth-eq0-clause-fault
filter_of-returns-then-depth-eq0-clause-fault t c = λ u rest p. omega (arith, some_depth u, c.if-depth-eq0.true)

pub filter_of-returns-then-items-eq0-clause-fault : goal.filter_of-returns-then-items-eq0-clause-fault
filter_of-returns-then-items-eq0-clause-fault t c = λ u rest p. omega (arith, some_count u, c.if-items-eq0.true)

pub filter_of-returns-in-None-clause-fault : goal.filter_of-returns-in-None-clause-fault
filter_of-returns-in-None-clause-fault t c = λ u rest p. not_opened c.args.text.now c.in-None.ensures u rest p

pub row_of-returns-in_err-filter-clause-fault : goal.row_of-returns-in_err-filter-clause-fault
row_of-returns-in_err-filter-clause-fault t c =
    let p = err_from_is_err_and c.from_residual.result c.from_residual.ensures.1 in
    rw (p.1, p.2)
    (row_fails c.in_err-filter.field-0.0 c.args.depth c.args.items c.args.text.now (views c.loop-alloc.filters.items)
    c.loop-alloc.left c.loop-alloc.rest.now c.loop-alloc.invariant.0 (sym c.begins_with.ensures
    ∙ c.loop-alloc-test.true) c.in_err-filter.ensures.fault)

pub row_of-loop-alloc-preserved : goal.row_of-loop-alloc-preserved
row_of-loop-alloc-preserved t c =
    let pushed : c.push.new.self.items ≡ c.loop-alloc.filters.items ++ c.in_ok-filter.filter ∷ [] =
    c.in_ok-push.ensures.items in
    let seen = ap views pushed ∙ views_push c.loop-alloc.filters.items c.in_ok-filter.filter in
    let grown = goes_on c.args.depth c.args.items c.args.text.now (views c.loop-alloc.filters.items) c.loop-alloc.left
    c.loop-alloc.rest.now (view c.in_ok-filter.filter) c.in_ok-filter.fewer c.in_ok-filter.after.now
    c.loop-alloc.invariant.0 (sym c.begins_with.ensures ∙ c.loop-alloc-test.true) c.in_ok-filter.ensures.found
    in (
      subst (λ (ts : Trees). SoFar c.args.depth c.args.items c.args.text.now ts c.in_ok-filter.fewer
          c.in_ok-filter.after.now) (sym seen) grown,
      omega (arith, c.loop-alloc.invariant.1, c.in_ok-filter.ensures.left),
    )

pub row_of-returns-in-Some-clause-found : goal.row_of-returns-in-Some-clause-found
row_of-returns-in-Some-clause-found t c =
    ends c.args.depth c.args.items c.args.text.now (views c.loop-alloc.filters.items) c.loop-alloc.left
    c.loop-alloc.rest.now c.in-Some.after.now c.loop-alloc.invariant.0 (sym c.begins_with.ensures
    ∙ c.loop-alloc-test.false) c.in-Some.ensures

pub row_of-returns-clause-fault : goal.row_of-returns-clause-fault
row_of-returns-clause-fault t c =
    never_ends c.args.depth c.args.items c.args.text.now (views c.loop-alloc.filters.items) c.loop-alloc.left
    c.loop-alloc.rest.now c.loop-alloc.invariant.0 (sym c.begins_with.ensures ∙ c.loop-alloc-test.false)
    c.in-None.ensures
