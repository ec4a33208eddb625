-- What search doesn't prove of `read_names_are_read_again`: what it returns, by lemmas of `ReadNames`.
use Rattle.schema_laws.proofs.ReadNames.{read_again}
use Rattle.schema_laws.proofs.naming.read_names_are_read_again.Goals as goal

pub returns : goal.returns
returns c = read_again
