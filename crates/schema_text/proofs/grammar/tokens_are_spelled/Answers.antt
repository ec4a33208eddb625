-- What search doesn't prove of `tokens_are_spelled`: what it returns, by lemmas of `Spelled`.
use Rattle.schema_text.proofs.Spelled.{tokens_spelled}
use Rattle.schema_text.proofs.grammar.tokens_are_spelled.Goals as goal

pub returns : goal.returns
returns c = tokens_spelled
