-- What search doesn't prove of `guide`: the clause `guides`, the clause `few`, the clause `plans` and the clause
-- `told`, by lemmas of `Guided`.
use Rattle.dir_search.proofs.Guided.{guided, leaves_few, told_open}
use Rattle.dir_search.proofs.bound_search.guide.Goals as goal

pub returns-clause-guides : goal.returns-clause-guides
returns-clause-guides c =
    let h = rw c.indexes.ensures at c.in_ok-sided.ensures.sets in
    guided c.args.indexed.now c.args.bound.now c.in_ok-sided.sided.must c.in_ok-sided.sided.may
    (rw c.tree.ensures at c.is_directory.ensures.rise) h

pub returns-clause-few : goal.returns-clause-few
returns-clause-few c =
    let h = rw c.indexes.ensures at c.in_ok-sided.ensures in
    leaves_few c.args.indexed.now c.args.bound.now c.in_ok-sided.sided.must c.in_ok-sided.sided.may
    c.sets_are_of_entries.ensures (rw c.tree.ensures at c.is_directory.ensures.rise) h.sets h.parts h.runs

pub returns-clause-plans : goal.returns-clause-plans
returns-clause-plans c = rw c.indexes.ensures at c.in_ok-sided.ensures.filters

pub returns-clause-told : goal.returns-clause-told
returns-clause-told c = told_open c.args.indexed.now c.in_ok-sided.sided.must c.in_ok-sided.sided.may
    c.sets_are_of_entries.ensures (rw c.tree.ensures at c.is_directory.ensures.rise)
