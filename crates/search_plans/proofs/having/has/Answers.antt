-- What search doesn't prove of `has`: what it returns, by lemmas of `Searching`.
use Rattle.std.proofs.Common.{ap, ◌∙◌, sym}
use Rattle.search_plans.proofs.Searching.{search_tells, found_of}
use Rattle.search_plans.proofs.having.has.Goals as goal

pub returns-in-Ok : goal.returns-in-Ok
returns-in-Ok c = ap found_of (sym c.in-Ok.is) ∙ search_tells c.args.numbers.now c.args.number c.binary_search.result
    c.requires c.binary_search.ensures.position

pub returns-in-Err : goal.returns-in-Err
returns-in-Err c = ap found_of (sym c.in-Err.is) ∙ search_tells c.args.numbers.now c.args.number
    c.binary_search.result c.requires c.binary_search.ensures.position
