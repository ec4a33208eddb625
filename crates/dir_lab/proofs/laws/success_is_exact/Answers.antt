-- What search doesn't prove of `success_is_exact`: what it returns, step by step.
use Rattle.dir_lab.proofs.Exact as exact
use Rattle.dir_lab.proofs.laws.success_is_exact.Goals as goal

pub returns : goal.returns
returns c = exact.success_is_exact
