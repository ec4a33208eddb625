-- The value that a response in memory stands for.
use Rattle.std.specs.Prelude.{map, string_bytes}
use Rattle.std.specs.Option.{option_map}
use Rattle.ldap_parts.specs.ResponseValues.{SearchResultEntryValue, ExtendedResponseValue}
use Rattle.ldap_parts.specs.declared.entry.SearchResultEntry.{SearchResultEntry}
use Rattle.ldap_parts.specs.declared.extended.ExtendedResponse.{ExtendedResponse}
use Rattle.ldap_parts.specs.View.{attribute_view, result_view}

-- the value of an entry that a search found
abbrev pub entry_view : SearchResultEntry → SearchResultEntryValue
entry_view e = record { object_name = string_bytes e.object_name; attributes = map attribute_view e.attributes.items }

-- the value of an extended response
abbrev pub extended_view : ExtendedResponse → ExtendedResponseValue
extended_view r = record {
  result = result_view r.result;
  response_name = option_map string_bytes r.response_name;
  response_value = option_map (λ v. v.items) r.response_value;
}
