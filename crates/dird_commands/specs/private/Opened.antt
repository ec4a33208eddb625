-- What a directory begins with.
use Rattle.std.specs.Prelude.{◌≡◌, ℕ, List, [], Option, None, Some, Ok}
use Rattle.local_directory.specs.ldap_schema.Schema.{SchemaModel}
use Rattle.schema_reader.specs.BuiltIn.{built_in}
use Rattle.schema_reader.specs.Reading.{schema_of_text}
use Rattle.local_directory.specs.index_choice.declared.kinds.Kinds.{Kinds}
use Rattle.local_directory.specs.index_choice.Texts.{IsChoiceOf}

-- the schema of a text (RFC 4512 4.1), and the built-in one without a text
abbrev pub IsSchemaOf : Option (List ℕ) → SchemaModel → Type 0
IsSchemaOf None s = s ≡ built_in
IsSchemaOf (Some text) s = schema_of_text text ≡ Ok s

-- the index choice of a text, and none without a text
abbrev pub IsIndexOf : SchemaModel → Option (List ℕ) → List Kinds → Type 0
IsIndexOf s None i = i ≡ []
IsIndexOf s (Some text) i = IsChoiceOf s text i
