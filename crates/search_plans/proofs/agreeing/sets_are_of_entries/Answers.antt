-- What search doesn't prove of `sets_are_of_entries`: what it returns, by lemmas of `Numbers`.
use Rattle.search_plans.proofs.Numbers.{is_in_holds}
use Rattle.search_plans.proofs.agreeing.sets_are_of_entries.Goals as goal

pub returns : goal.returns
returns c = λ ix es scope n e p. is_in_holds ix es scope n e p
