-- What search doesn't prove of `read_types_are_of_one_family`: what it returns, by lemmas of `OneFamily`.
use Rattle.schema_laws.proofs.OneFamily.{read_types_are_of_one_family}
use Rattle.schema_laws.proofs.ruling.read_types_are_of_one_family.Goals as goal

pub returns : goal.returns
returns c = read_types_are_of_one_family
