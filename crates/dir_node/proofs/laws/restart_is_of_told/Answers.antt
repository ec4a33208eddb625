-- What search doesn't prove of `restart_is_of_told`: the clause `told` and the clause `taken`, by lemmas of
-- `Returning`.
use Rattle.dir_node.proofs.Returning.{restart_told_back, restart_taken_back}
use Rattle.dir_node.proofs.laws.restart_is_of_told.Goals as goal

pub returns-clause-told : goal.returns-clause-told
returns-clause-told c = restart_told_back c.one_is_told.ensures

pub returns-clause-taken : goal.returns-clause-taken
returns-clause-taken c = restart_taken_back c.one_is_told.ensures
