-- The one content that is written (RFC 4511 5.1).
use Rattle.std.specs.Prelude.{ℕ, List, ◌++◌}
use Rattle.std.specs.Str.{IsUtf8}
use Rattle.std.specs.List.{AllByRecursion}
use Rattle.ldap_ber.specs.Element.{element_bytes}
use Rattle.ldap_ber.specs.Rows.{row_bytes}
use Rattle.ldap_parts.specs.ResponseValues.{SearchResultEntryValue, ExtendedResponseValue}
use Rattle.ldap_ber.specs.Written.{optional_bytes, IsTextOrNone}
use Rattle.ldap_parts.specs.Written.{attribute_bytes, result_content, IsResultInRange}

-- the content of an entry
abbrev pub entry_content : SearchResultEntryValue → List ℕ
entry_content e = element_bytes 4 e.object_name ++ element_bytes 48 (row_bytes attribute_bytes e.attributes)

-- the content of an extended response
abbrev pub extended_content : ExtendedResponseValue → List ℕ
extended_content r = result_content r.result ++ optional_bytes 138 r.response_name ++ optional_bytes 139
    r.response_value

-- names are UTF-8
abbrev pub IsEntryInRange : SearchResultEntryValue → Type 0
IsEntryInRange e = IsUtf8 e.object_name × AllByRecursion (λ a. IsUtf8 a.description) e.attributes

-- texts are UTF-8, and the code is in its range
abbrev pub IsExtendedInRange : ExtendedResponseValue → Type 0
IsExtendedInRange r = IsResultInRange r.result × IsTextOrNone r.response_name
