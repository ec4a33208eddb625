-- What search doesn't prove of `missing_are_above`: the clause `above`, the clause `once` and the clause `in_turn`, by
-- lemmas of `Lineages`.
use Rattle.schema_laws.proofs.Lineages.{missing_are_above, missing_stand_once, missing_come_in_turn}
use Rattle.schema_laws.proofs.chaining.missing_are_above.Goals as goal

pub returns-clause-above : goal.returns-clause-above
returns-clause-above c = missing_are_above

pub returns-clause-once : goal.returns-clause-once
returns-clause-once c = missing_stand_once

pub returns-clause-in_turn : goal.returns-clause-in_turn
returns-clause-in_turn c = missing_come_in_turn
