-- What search doesn't prove of `possible_by_runs`: what it returns, by lemmas of `RunLists`.
use Rattle.search_plans.proofs.RunLists.{run_plan}
use Rattle.search_plans.proofs.leaves.possible_by_runs.Goals as goal

pub returns : goal.returns
returns c = λ ix kept e. run_plan ix c.args.type_id c.args.parts.now c.in_ok-plans.plans kept c.in_ok-plans.ensures e
