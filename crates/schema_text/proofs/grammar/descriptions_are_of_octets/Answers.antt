-- What search doesn't prove of `descriptions_are_of_octets`: what it returns, by lemmas of `Described`.
use Rattle.schema_text.proofs.Described.{descriptions_of_octets}
use Rattle.schema_text.proofs.grammar.descriptions_are_of_octets.Goals as goal

pub returns : goal.returns
returns c = descriptions_of_octets
