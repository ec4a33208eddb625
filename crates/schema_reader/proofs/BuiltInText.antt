-- What the text of the built-in schema means, by computing.
use Rattle.std.proofs.Common.{Ok, Result, ◌≡◌, refl, sym, ◌∙◌}
use Rattle.std.specs.Str.{is_utf8, chars}
use lib.Utf8.{encode}
use Rattle.ldap_schema.specs.Schema.{SchemaModel}
use Rattle.schema_reader.specs.BuiltIn.{built_in, built_in_text}
use Rattle.schema_reader.specs.Reading.{schema_of_text}
use Rattle.schema_reader.specs.declared.error.SchemaError.{SchemaError}

pub text_is_table : schema_of_text built_in_text ≡ Ok built_in
unfolding built_in_text is_utf8 chars encode
text_is_table = refl

is_one : (r : Result SchemaModel SchemaError) (s t : SchemaModel) → r ≡ Ok s → r ≡ Ok t → s ≡ t
is_one r s t e f = let h : Ok s ≡ Ok t = sym e ∙ f in cc

pub table_of_text : (s : SchemaModel) → schema_of_text built_in_text ≡ Ok s → s ≡ built_in
table_of_text s e = is_one (schema_of_text built_in_text) s built_in e text_is_table
