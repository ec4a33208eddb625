-- What search doesn't prove of `listed_more`: the clause `lists`, by lemmas of `Listed`.
use Rattle.indexed_tree.specs.Listed.{listed_of}
use Rattle.indexed_tree.proofs.Listed.{listed_below}
use Rattle.indexed_tree.proofs.listing.listed_more.Goals as goal

pub returns-clause-lists : goal.returns-clause-lists
returns-clause-lists c =
    let d = c.args.tree.now.entries in
    c.in_ok-lists.ensures.ok (listed_of d) c.requires.of (listed_below c.args.number d c.requires.above)
