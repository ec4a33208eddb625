-- What search doesn't prove of `lines_are_of_text`: what it returns, by lemmas of `Lined`.
use Rattle.schema_text.proofs.Lined.{lines_of_text}
use Rattle.schema_text.proofs.grammar.lines_are_of_text.Goals as goal

pub returns : goal.returns
returns c = lines_of_text
