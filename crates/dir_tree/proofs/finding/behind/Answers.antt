-- What search doesn't prove of `behind`: `slice_bounds-result-count`, `slice_bounds-result-start` and what it returns,
-- by lemmas of `NameFacts`.
use Rattle.dir_tree.proofs.NameFacts.{front_long, behind_on, behind_off}
use Rattle.dir_tree.proofs.finding.behind.Goals as goal

pub slice_bounds-result-count : goal.slice_bounds-result-count
slice_bounds-result-count c = front_long c.args.front.now c.args.name.now c.is_front.result c.if-is_front.true
    c.is_front.ensures

pub slice_bounds-result-start : goal.slice_bounds-result-start
slice_bounds-result-start c = front_long c.args.front.now c.args.name.now c.is_front.result c.if-is_front.true
    c.is_front.ensures

pub returns-then-is_front : goal.returns-then-is_front
returns-then-is_front c = behind_on c.args.front.now c.args.name.now c.is_front.result c.if-is_front.true
    c.is_front.ensures

pub returns-else-is_front : goal.returns-else-is_front
returns-else-is_front c = behind_off c.args.front.now c.args.name.now c.is_front.result c.if-is_front.false
    c.is_front.ensures
