-- The one spelling that is written, and which values can be (RFC 4511 5.1).
use Rattle.std.specs.Prelude.{◌^◌, ◌<◌, ℕ, List, ◌++◌}
use Rattle.std.specs.Str.{IsUtf8}
use Rattle.std.specs.List.{AllByRecursion}
use Rattle.ldap_ber.specs.Element.{element_bytes}
use Rattle.ldap_ber.specs.Rows.{row_bytes}
use Rattle.ldap_parts.specs.Values.{PartialAttributeValue, LdapResultValue, ControlValue}
use Rattle.ldap_ber.specs.Written.{number_bytes, flag_or_false_bytes, optional_bytes, row_or_none_bytes}

-- the content of a partial attribute
abbrev pub attribute_content : PartialAttributeValue → List ℕ
attribute_content a = element_bytes 4 a.description ++ element_bytes 49 (row_bytes (element_bytes 4) a.values)

-- a partial attribute
abbrev pub attribute_bytes : PartialAttributeValue → List ℕ
attribute_bytes a = element_bytes 48 (attribute_content a)

-- the content of a result
abbrev pub result_content : LdapResultValue → List ℕ
result_content r =
    number_bytes 10 r.code ++ element_bytes 4 r.matched_dn ++ element_bytes 4
    r.diagnostic_message ++ row_or_none_bytes (element_bytes 4) 163 r.referral

-- the content of a control
abbrev pub control_content : ControlValue → List ℕ
control_content c = element_bytes 4 c.control_type ++ flag_or_false_bytes 1 c.criticality ++ optional_bytes 4 c.value

-- a control
abbrev pub control_bytes : ControlValue → List ℕ
control_bytes c = element_bytes 48 (control_content c)

-- texts are UTF-8, and the code is at most 2147483647
pub record IsResultInRange (r : LdapResultValue) : Type 0 where
  pub code : r.code < 2 ^ 31
  pub matched_dn : IsUtf8 r.matched_dn
  pub diagnostic_message : IsUtf8 r.diagnostic_message
  pub referral : AllByRecursion IsUtf8 r.referral
