-- What search doesn't prove of `built_in_is_its_text`: what it returns, by lemmas of `BuiltInText`.
use Rattle.schema_reader.proofs.BuiltInText.{text_is_table}
use Rattle.schema_reader.proofs.reading.built_in_is_its_text.Goals as goal

pub returns : goal.returns
returns c = text_is_table
