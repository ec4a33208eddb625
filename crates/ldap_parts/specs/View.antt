-- The value that a part in memory stands for.
use Rattle.std.specs.Prelude.{map, string_bytes}
use Rattle.std.specs.Option.{option_map}
use Rattle.ldap_parts.specs.Values.{PartialAttributeValue, LdapResultValue, ControlValue}
use Rattle.ldap_parts.specs.declared.attribute.PartialAttribute.{PartialAttribute}
use Rattle.ldap_parts.specs.declared.result.LdapResult.{LdapResult}
use Rattle.ldap_parts.specs.declared.control.Control.{Control}

-- the value of an attribute and its values
abbrev pub attribute_view : PartialAttribute → PartialAttributeValue
attribute_view a = record { description = string_bytes a.description; values = map (λ v. v.items) a.values.items }

-- the value of a result
abbrev pub result_view : LdapResult → LdapResultValue
result_view r = record {
  code = r.code;
  matched_dn = string_bytes r.matched_dn;
  diagnostic_message = string_bytes r.diagnostic_message;
  referral = map string_bytes r.referral.items;
}

-- the value of a control
abbrev pub control_view : Control → ControlValue
control_view c = record {
  control_type = string_bytes c.control_type;
  criticality = c.criticality;
  value =
      option_map (λ v. v.items) c.value;
}
