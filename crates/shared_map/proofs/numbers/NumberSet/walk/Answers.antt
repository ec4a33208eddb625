-- What search doesn't prove of `walk`: the invariant and what it returns, by lemmas of `Ahead`.
use Rattle.shared_map.proofs.Ahead.{amid, head_whole}
use Rattle.shared_map.proofs.numbers.NumberSet.walk.Goals as goal

pub invariant_of-result : goal.invariant_of-result
invariant_of-result c = amid _ _ _ _ c.rises.ensures (head_whole _ _ _ c.rises.ensures c.head-head.ensures)
    c.head-head.ensures

pub returns : goal.returns
returns c = head_whole _ _ _ c.rises.ensures c.head-head.ensures
