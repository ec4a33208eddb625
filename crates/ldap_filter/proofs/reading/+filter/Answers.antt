-- The goals of `filter` that no tactic closes, each by one lemma over plain lists.
use Rattle.std.proofs.Common.{◌≡◌, ℕ, [], ◌∷◌, ◌++◌, ap, subst, inl, inr, ◌∙◌, arith, rules}
use Rattle.std.proofs.lemmas.Result.{err_from_is_err_and}
use Rattle.ldap_filter.specs.View.{view}
use Rattle.ldap_filter.specs.private.View.{views}
use Rattle.ldap_filter.specs.Tree.{negation}
use Rattle.ldap_ber.specs.Fields.{HasField}
use Rattle.ldap_filter.specs.Limits.{here}
use Rattle.ldap_filter.specs.declared.tree.Filter.{Not, the_lemmas}
use Rattle.ldap_filter.proofs.Faults.{row_fault, not_fault, trailing, item_fault, not_reads}
use Rattle.ldap_ber.proofs.RowLemmas.{some_left, none_left}
use Rattle.ldap_filter.proofs.Rows.{goes_on, fails, views_push}
use Rattle.ldap_filter.proofs.reading.+filter.Goals as goal

pub filter_of-returns-in_err-filters-in-160-clause-fault : goal.filter_of-returns-in_err-filters-in-160-clause-fault
filter_of-returns-in_err-filters-in-160-clause-fault t c =
    let p = err_from_is_err_and c.from_residual-in_err-filters-in-160.result
    c.from_residual-in_err-filters-in-160.ensures.1 in
    rw (p.1, p.2) (row_fault _ c.args.depth c.args.items c.args.octets.now c.in_ok-element.element.content.now
    c.in_ok-element.rest.now c.in_ok-element.element.first c.in_ok-element.ensures.found (inl c.in-160.is)
    (omega arith) (omega arith) c.in_err-filters-in-160.ensures.fault)

pub filter_of-returns-in_err-filters-in-161-clause-fault : goal.filter_of-returns-in_err-filters-in-161-clause-fault
filter_of-returns-in_err-filters-in-161-clause-fault t c =
    let p = err_from_is_err_and c.from_residual-in_err-filters-in-161.result
    c.from_residual-in_err-filters-in-161.ensures.1 in
    rw (p.1, p.2) (row_fault _ c.args.depth c.args.items c.args.octets.now c.in_ok-element.element.content.now
    c.in_ok-element.rest.now c.in_ok-element.element.first c.in_ok-element.ensures.found (inr c.in-161.is)
    (omega arith) (omega arith) c.in_err-filters-in-161.ensures.fault)

pub filter_of-returns-in_err-inner-in-162-clause-fault : goal.filter_of-returns-in_err-inner-in-162-clause-fault
filter_of-returns-in_err-inner-in-162-clause-fault t c =
    let p = err_from_is_err_and c.from_residual-in_err-inner-in-162.result
    c.from_residual-in_err-inner-in-162.ensures.1 in
    rw (p.1, p.2) (not_fault _ c.args.depth c.args.items c.args.octets.now c.in_ok-element.element.content.now
    c.in_ok-element.rest.now (subst (λ (f : ℕ). HasField c.args.octets.now f c.in_ok-element.element.content.now
    c.in_ok-element.rest.now) c.in-162.is c.in_ok-element.ensures.found) (omega arith) (omega arith)
    c.in_err-inner-in-162.ensures.fault)

pub filter_of-returns-then-depth-eq0-clause-fault : goal.filter_of-returns-then-depth-eq0-clause-fault
filter_of-returns-then-depth-eq0-clause-fault t c =
    rw c.if-depth-eq0.true (0, here _ _ _ c.in_ok-element.ensures.found c.if-not-is_octet.ensures.yes)

pub filter_of-returns-then-items-eq0-clause-fault : goal.filter_of-returns-then-items-eq0-clause-fault
filter_of-returns-then-items-eq0-clause-fault t c =
    rw c.if-items-eq0.true (0, here _ _ _ c.in_ok-element.ensures.found c.if-not-is_octet.ensures.yes)

pub filter_of-returns-then-not-is_empty-clause-fault : goal.filter_of-returns-then-not-is_empty-clause-fault
filter_of-returns-then-not-is_empty-clause-fault t c =
    trailing _ _ _ c.args.octets.now c.in_ok-element.element.content.now c.in_ok-element.rest.now
    c.in_ok-inner-in-162.after.now (view c.in_ok-inner-in-162.inner)
    (subst (λ (f : ℕ). HasField c.args.octets.now f c.in_ok-element.element.content.now c.in_ok-element.rest.now)
    c.in-162.is c.in_ok-element.ensures.found) c.in_ok-inner-in-162.ensures.found (some_left c.is_empty.result _
    c.is_empty.ensures c.if-not-is_empty.true)

pub filter_of-returns-in_ok-inner-in-162-2-clause-found : goal.filter_of-returns-in_ok-inner-in-162-2-clause-found
filter_of-returns-in_ok-inner-in-162-2-clause-found t c =
    let inner = c.in_ok-inner-in-162-2.inner in
    let seen : view (Not inner) ≡ negation (view inner.value) = search (rules, the_lemmas) in
    let kept : inner.value ≡ c.in_ok-inner-in-162.inner = c.in_ok-inner-in-162-2.ensures.ok in
    rw (seen, kept) (not_reads c.args.depth c.args.items c.in_ok-inner-in-162.left c.args.octets.now
    c.in_ok-element.element.content.now c.in_ok-element.rest.now c.in_ok-inner-in-162.after.now
    (view c.in_ok-inner-in-162.inner)
    (subst (λ (f : ℕ). HasField c.args.octets.now f c.in_ok-element.element.content.now c.in_ok-element.rest.now)
    c.in-162.is c.in_ok-element.ensures.found) (omega arith) (omega arith) c.in_ok-inner-in-162.ensures.found
    (none_left c.is_empty.result _ c.is_empty.ensures c.if-not-is_empty.false))

pub row_of-returns-in_err-filter-clause-fault : goal.row_of-returns-in_err-filter-clause-fault
row_of-returns-in_err-filter-clause-fault t c =
    let p = err_from_is_err_and c.from_residual.result c.from_residual.ensures.1 in
    rw (p.1, p.2) (fails c.in_err-filter.field-0.0 c.args.depth c.args.items c.args.content.now
    (views c.loop-rest.filters.items) c.loop-rest.left c.loop-rest.rest.now c.loop-rest.invariant
    (some_left c.is_empty.result _ c.is_empty.ensures c.loop-rest-test.true) c.in_err-filter.ensures.fault)

pub row_of-loop-rest-preserved : goal.row_of-loop-rest-preserved
row_of-loop-rest-preserved t c =
    let pushed : c.push.new.self.items ≡ c.loop-rest.filters.items ++ c.in_ok-filter.filter ∷ [] =
    c.in_ok-push.ensures.items in
    let seen = ap views pushed ∙ views_push c.loop-rest.filters.items c.in_ok-filter.filter in
    rw seen (goes_on c.args.depth c.args.items c.args.content.now (views c.loop-rest.filters.items) c.loop-rest.left
    c.loop-rest.rest.now (view c.in_ok-filter.filter) c.in_ok-filter.fewer c.in_ok-filter.after.now
    c.loop-rest.invariant c.in_ok-filter.ensures.found)

pub filter_of-returns-in_err-item-in_default-clause-fault : goal.filter_of-returns-in_err-item-in_default-clause-fault
filter_of-returns-in_err-item-in_default-clause-fault t c =
    let others = c.in_default.in_default-own.rest in
    let p = err_from_is_err_and c.from_residual-in_err-item-in_default.result
    c.from_residual-in_err-item-in_default.ensures.1 in
    rw (p.1, p.2) (item_fault _ c.args.depth c.args.items c.args.octets.now c.in_ok-element.element.content.now
    c.in_ok-element.rest.now c.in_ok-element.element.first c.in_ok-element.ensures.found others.0.0.1 others.0.1
    others.1 c.in_err-item-in_default.ensures.fault)
