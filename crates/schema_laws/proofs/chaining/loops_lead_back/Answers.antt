-- What search doesn't prove of `loops_lead_back`: the clause `types`, the clause `classes`, the clause `refused` and
-- the clause `read`, by lemmas of `Looped`, `Lineages` and `FirstLoops`.
use Rattle.schema_laws.proofs.Looped.{loops_of_types}
use Rattle.schema_laws.proofs.Lineages.{loops_of_classes}
use Rattle.schema_laws.proofs.FirstLoops.{refused_at_first_loop, read_texts_have_no_loop}
use Rattle.schema_laws.proofs.chaining.loops_lead_back.Goals as goal

pub returns-clause-types : goal.returns-clause-types
returns-clause-types c = loops_of_types

pub returns-clause-classes : goal.returns-clause-classes
returns-clause-classes c = loops_of_classes

pub returns-clause-refused : goal.returns-clause-refused
returns-clause-refused c = refused_at_first_loop

pub returns-clause-read : goal.returns-clause-read
returns-clause-read c = read_texts_have_no_loop
