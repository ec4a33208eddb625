-- What is printed of a name is read as the name: RFC 4514 2 and 3.
use Rattle.std.specs.Prelude.{ℕ, List, [], true, All, Some, Ok, nat_eq, Bool, ◌||◌, ◌≡◌, length, ◌<◌}
use Rattle.std.specs.List.{list_all}
use Rattle.std.specs.Str.{is_utf8}
use Rattle.schema_reader.specs.schema_text.Words.{is_key_octet}
use Rattle.ldap_match.specs.ldap_schema.Schema.{SchemaModel, find}
use Rattle.schema_reader.specs.Reading.{schema_of_text}
use Rattle.ldap_dn.specs.Names.{TypeAndValue, RdnModel}
use Rattle.ldap_dn.specs.Texts.{keys_from, name_of_text}
use Rattle.ldap_dn.specs.Printed.{type_name, printed_name}

-- the octets of a type's name and of an object identifier: letters, digits, hyphen and full stop (RFC 4512 1.4,
-- keystring and numericoid)
abbrev pub is_name_octet : ℕ → Bool
is_name_octet c = is_key_octet c || nat_eq c 46

-- a type and a value that can be printed and read again: the type is found by its first name, and the value is UTF-8
pub record IsReadable (s : SchemaModel) (v : TypeAndValue) : Type 0 where
  pub is_found : find s (type_name s v.kind) ≡ Some v.kind
  pub is_plain : list_all is_name_octet (type_name s v.kind) ≡ true
  pub is_text : is_utf8 v.value ≡ true

-- a relative name of the schema's types: it has a type and a value, and its keys are those of its values
pub record IsRdnOf (s : SchemaModel) (r : RdnModel) : Type 0 where
  pub has_one : 0 < length r.spelling
  pub are_readable : All (IsReadable s) r.spelling
  pub are_keys : keys_from s [] r.spelling ≡ Some r.keys

-- What is printed of a name is read as the name, its spelling too.
abbrev pub PrintedIsRead : Type 0
PrintedIsRead = (s : SchemaModel) (name : List RdnModel) → All (IsRdnOf s) name →
    name_of_text s (printed_name s name) ≡ Some name

-- What is printed of a name that was read by a schema that was read is read as that name.
abbrev pub ReadNamesAreReadAgain : Type 0
ReadNamesAreReadAgain = (of_schema : List ℕ) (s : SchemaModel) → schema_of_text of_schema ≡ Ok s →
    (text : List ℕ) (name : List RdnModel) → name_of_text s text ≡ Some name → name_of_text s (printed_name s name) ≡
    Some name
