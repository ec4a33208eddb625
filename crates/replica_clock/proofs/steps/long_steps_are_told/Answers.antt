-- What search doesn't prove of `long_steps_are_told`: the clause `hung`, the clause `well`, the clause `silent` and the
-- clause `heard`, by lemmas of `LongSteps`.
use Rattle.replica_clock.proofs.LongSteps.{heard, hung, silent, well}
use Rattle.replica_clock.proofs.steps.long_steps_are_told.Goals as goal

pub returns-clause-hung : goal.returns-clause-hung
returns-clause-hung c = hung

pub returns-clause-well : goal.returns-clause-well
returns-clause-well c = well

pub returns-clause-silent : goal.returns-clause-silent
returns-clause-silent c = silent

pub returns-clause-heard : goal.returns-clause-heard
returns-clause-heard c = heard
