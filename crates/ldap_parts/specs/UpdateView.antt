-- The value that an update in memory stands for.
use Rattle.std.specs.Prelude.{map, string_bytes}
use Rattle.std.specs.Option.{option_map}
use Rattle.ldap_parts.specs.View.{attribute_view}
use Rattle.ldap_parts.specs.UpdateValues.{AddRequestValue, ChangeValue, ModifyRequestValue, ModifyDnRequestValue}
use Rattle.ldap_parts.specs.declared.add.AddRequest.{AddRequest}
use Rattle.ldap_parts.specs.declared.modify.Change.{Change}
use Rattle.ldap_parts.specs.declared.modify.ModifyRequest.{ModifyRequest}
use Rattle.ldap_parts.specs.declared.modify_dn.ModifyDnRequest.{ModifyDnRequest}

-- the value of an add
abbrev pub add_view : AddRequest → AddRequestValue
add_view a = record { entry = string_bytes a.entry; attributes = map attribute_view a.attributes.items }

-- the value of a change
abbrev pub change_view : Change → ChangeValue
change_view k = record { operation = k.operation; modification = attribute_view k.modification }

-- the value of a modify
abbrev pub modify_view : ModifyRequest → ModifyRequestValue
modify_view m = record { object = string_bytes m.object; changes = map change_view m.changes.items }

-- the value of a modifyDN
abbrev pub modify_dn_view : ModifyDnRequest → ModifyDnRequestValue
modify_dn_view d = record {
  entry = string_bytes d.entry;
  newrdn = string_bytes d.newrdn;
  deleteoldrdn = d.deleteoldrdn;
  new_superior = option_map string_bytes d.new_superior;
}
