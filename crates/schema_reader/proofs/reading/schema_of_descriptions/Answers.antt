-- What search doesn't prove of `schema_of_descriptions`: the clause `found` and the clause `refused`, step by step.
use Rattle.std.proofs.Common.{◌≡◌, Ok, IfOk, IfErr, subst}
use Rattle.schema_meaning.specs.schema_text.Texts.{SchemaTextModel}
use Rattle.ldap_schema.specs.Schema.{SchemaModel}
use Rattle.schema_reader.specs.Reading.{schema_of_lines, IsRefusalOf}
use Rattle.schema_reader.proofs.reading.schema_of_descriptions.Goals as goal

pub returns-clause-found : goal.returns-clause-found
returns-clause-found c =
    subst (λ (x : SchemaTextModel). IfOk c.schema_of_indexed.result (λ (s : SchemaModel). schema_of_lines x ≡ Ok s))
    c.in_ok-text.ensures c.schema_of_indexed.ensures.found

pub returns-clause-refused : goal.returns-clause-refused
returns-clause-refused c =
    subst (λ (x : SchemaTextModel). IfErr c.schema_of_indexed.result (λ e. IsRefusalOf (schema_of_lines x) e))
    c.in_ok-text.ensures c.schema_of_indexed.ensures.refused
