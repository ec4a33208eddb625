-- What search doesn't prove of `refused_at_first_faults`: the clause `bad`, the clause `unknown` and the clause
-- `lacking`, by lemmas of `FirstFaults`.
use Rattle.schema_laws.proofs.FirstFaults.{refused_at_first_bad_line, refused_at_first_unknown, refused_at_first_lack}
use Rattle.schema_laws.proofs.faulting.refused_at_first_faults.Goals as goal

pub returns-clause-bad : goal.returns-clause-bad
returns-clause-bad c = refused_at_first_bad_line

pub returns-clause-unknown : goal.returns-clause-unknown
returns-clause-unknown c = refused_at_first_unknown

pub returns-clause-lacking : goal.returns-clause-lacking
returns-clause-lacking c = refused_at_first_lack
