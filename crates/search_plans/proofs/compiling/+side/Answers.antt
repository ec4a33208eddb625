-- What search doesn't prove of `+side`: `side-returns-then-wanted`, `side-returns-else-wanted`,
-- `side-returns-then-wanted-2`, `side-returns-else-wanted-2` and others, by lemmas of `Rows` and `Whole`.
use Rattle.search_plans.specs.private.Sides.{none}
use Rattle.search_plans.proofs.Rows.{if_ok_weaker, each_step}
use Rattle.search_plans.proofs.Whole.{every_of, side_of_and_true, side_of_and_false, side_of_or_true, side_of_or_false, side_of_not}
use Rattle.search_plans.proofs.compiling.+side.Goals as goal

pub side-returns-then-wanted : goal.side-returns-then-wanted
side-returns-then-wanted t c =
    let found = rw c.deref.ensures.value at c.every.ensures in
    if_ok_weaker _ _ (λ s h. side_of_and_true c.args.indexes.now c.args.wanted c.args.filter.now c.in-And.filters
    s.must s.may c.in-And.is c.if-wanted.true h) c.every.result found

pub side-returns-else-wanted : goal.side-returns-else-wanted
side-returns-else-wanted t c =
    let found = rw c.deref-else-wanted.ensures.value at c.any.ensures in
    if_ok_weaker _ _ (λ s h. side_of_and_false c.args.indexes.now c.args.wanted c.args.filter.now c.in-And.filters
    s.must s.may c.in-And.is c.if-wanted.false h) c.any.result found

pub side-returns-then-wanted-2 : goal.side-returns-then-wanted-2
side-returns-then-wanted-2 t c =
    let found = rw c.deref-then-wanted-2.ensures.value at c.any-then-wanted-2.ensures in
    if_ok_weaker _ _ (λ s h. side_of_or_true c.args.indexes.now c.args.wanted c.args.filter.now c.in-Or.filters s.must
    s.may c.in-Or.is c.if-wanted-2.true h) c.any-then-wanted-2.result found

pub side-returns-else-wanted-2 : goal.side-returns-else-wanted-2
side-returns-else-wanted-2 t c =
    let found = rw c.deref-else-wanted-2.ensures.value at c.every-else-wanted-2.ensures in
    if_ok_weaker _ _ (λ s h. side_of_or_false c.args.indexes.now c.args.wanted c.args.filter.now c.in-Or.filters
    s.must s.may c.in-Or.is c.if-wanted-2.false h) c.every-else-wanted-2.result found

pub side-returns-in-Not : goal.side-returns-in-Not
side-returns-in-Not t c =
    let found = rw c.deref-in-Not.ensures at c.side.ensures in
    if_ok_weaker _ _ (λ s h. side_of_not c.args.indexes.now c.args.wanted c.args.filter.now c.in-Not.inner s.must
    s.may c.in-Not.is h) c.side.result found

pub sides-loop-filter-init : goal.sides-loop-filter-init
sides-loop-filter-init t c = rw (c.in_ok-musts.ensures.items, c.in_ok-mays.ensures.items) none

pub sides-loop-filter-preserved : goal.sides-loop-filter-preserved
sides-loop-filter-preserved t c =
    each_step c.args.indexes.now c.args.wanted c.args.filters.now c.loop-filter.filter-index c.filter-item.result
    c.loop-filter.musts.items c.loop-filter.mays.items c.push.new.self.items c.push-in-loop-filter.new.self.items
    c.in_ok-sided.sided.must c.in_ok-sided.sided.may
    c.loop-filter.invariant c.loop-filter-test.true c.filter-item.is c.in_ok-sided.ensures c.in_ok-push.ensures.items
    c.in_ok-push-2.ensures.items

pub every-returns : goal.every-returns
every-returns t c = every_of c.args.indexes.now c.args.wanted c.args.filters.now c.in_ok-musts.musts
    c.in_ok-musts.mays.items c.join_bounds.new.plans c.in_ok-musts.ensures
    (c.in_ok-join_bounds.ensures c.args.indexes.now)
