-- What search doesn't prove of `built_in_schema`: what it returns, by lemmas of `BuiltInText`.
use Rattle.schema_reader.specs.BuiltIn.{built_in_text}
use Rattle.schema_reader.proofs.BuiltInText.{table_of_text}
use Rattle.schema_reader.proofs.reading.built_in_schema.Goals as goal

pub returns-in-Ok : goal.returns-in-Ok
unfolding built_in_text
returns-in-Ok c = table_of_text c.in-Ok.schema c.in-Ok.ensures.found
