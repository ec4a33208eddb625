-- What search doesn't prove of `entries_have_read_names`: what it returns, by lemmas of `ReadEntries`.
use Rattle.schema_laws.proofs.ReadEntries.{entries_have_read_names}
use Rattle.schema_laws.proofs.naming.entries_have_read_names.Goals as goal

pub returns : goal.returns
returns c = entries_have_read_names
