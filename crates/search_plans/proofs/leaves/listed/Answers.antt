-- What search doesn't prove of `listed`: what it returns, by lemmas of `LeafPlans`.
use Rattle.search_plans.proofs.LeafPlans.{listed_present, listed_equal, listed_at_least, listed_at_most, listed_unknown}
use Rattle.search_plans.proofs.leaves.listed.Goals as goal

pub returns-in-Present : goal.returns-in-Present
returns-in-Present c = λ ix d. listed_present ix c.args.leaf.now c.in-Present.is d

pub returns-in_ok-copy-in-Equal : goal.returns-in_ok-copy-in-Equal
returns-in_ok-copy-in-Equal c =
    λ ix d. listed_equal ix c.args.leaf.now c.in-Equal.key c.in_ok-copy-in-Equal.field-0 c.in-Equal.is
    c.in_ok-copy-in-Equal.ensures d

pub returns-in_ok-copy-in-AtLeast : goal.returns-in_ok-copy-in-AtLeast
returns-in_ok-copy-in-AtLeast c =
    λ ix d. listed_at_least ix c.args.leaf.now c.in-AtLeast.key c.in_ok-copy-in-AtLeast.field-0 c.in-AtLeast.is
    c.in_ok-copy-in-AtLeast.ensures d

pub returns-in_ok-copy-in-AtMost : goal.returns-in_ok-copy-in-AtMost
returns-in_ok-copy-in-AtMost c =
    λ ix d. listed_at_most ix c.args.leaf.now c.in-AtMost.key c.in_ok-copy-in-AtMost.field-0 c.in-AtMost.is
    c.in_ok-copy-in-AtMost.ensures d

pub returns-in-Unknown : goal.returns-in-Unknown
returns-in-Unknown c = λ ix d. listed_unknown ix c.args.leaf.now c.in-Unknown.is
