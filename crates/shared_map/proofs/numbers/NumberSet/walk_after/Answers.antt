-- What search doesn't prove of `walk_after`: the invariant and what it returns, by lemmas of `Ahead`.
use Rattle.shared_map.proofs.Ahead.{amid, head_after}
use Rattle.shared_map.proofs.numbers.NumberSet.walk_after.Goals as goal

pub invariant_of-result : goal.invariant_of-result
invariant_of-result c = amid _ _ _ _ c.rises.ensures (head_after _ _ _ _ c.rises.ensures c.head_after-head.ensures)
    c.head_after-head.ensures

pub returns : goal.returns
returns c = head_after _ _ _ _ c.rises.ensures c.head_after-head.ensures
