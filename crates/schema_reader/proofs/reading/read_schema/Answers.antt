-- What search doesn't prove of `read_schema`: the clause `refused` and the clause `found`, step by step.
use Rattle.std.proofs.Common.{◌≡◌, Ok, IfOk, IfErr, ap, subst, ◌∙◌}
use Rattle.schema_meaning.specs.schema_text.Texts.{SchemaTextModel, read_text}
use Rattle.ldap_schema.specs.Schema.{SchemaModel}
use Rattle.schema_reader.specs.Reading.{schema_of_lines, IsRefusalOf}
use Rattle.schema_reader.proofs.reading.read_schema.Goals as goal

pub returns-clause-refused : goal.returns-clause-refused
returns-clause-refused c =
    subst (λ (x : SchemaTextModel). IfErr c.schema_of_descriptions.result (λ e. IsRefusalOf (schema_of_lines x) e))
    (c.in_ok-text.ensures ∙ ap read_text c.as_bytes.ensures.value) c.schema_of_descriptions.ensures.refused

pub returns-clause-found : goal.returns-clause-found
returns-clause-found c =
    subst (λ (x : SchemaTextModel). IfOk c.schema_of_descriptions.result (λ (s : SchemaModel). schema_of_lines x ≡
    Ok s))
    (c.in_ok-text.ensures ∙ ap read_text c.as_bytes.ensures.value) c.schema_of_descriptions.ensures.found
