-- The one content that is written, and which values can be (RFC 4511 5.1).
use Rattle.std.specs.Prelude.{ℕ, List, ◌++◌}
use Rattle.std.specs.Str.{IsUtf8}
use Rattle.std.specs.List.{AllByRecursion}
use Rattle.ldap_ber.specs.Element.{element_bytes}
use Rattle.ldap_ber.specs.Rows.{row_bytes}
use Rattle.ldap_ber.specs.Written.{number_bytes, flag_octets, optional_bytes, IsTextOrNone}
use Rattle.ldap_parts.specs.Written.{attribute_bytes}
use Rattle.ldap_parts.specs.UpdateValues.{AddRequestValue, ChangeValue, ModifyRequestValue, ModifyDnRequestValue}
use Rattle.ldap_parts.specs.UpdateGrammar.{HasAValue, modify_number}

-- the content of an add
abbrev pub add_content : AddRequestValue → List ℕ
add_content a = element_bytes 4 a.entry ++ element_bytes 48 (row_bytes attribute_bytes a.attributes)

-- texts are UTF-8, and each attribute has a value
pub record IsAddInRange (a : AddRequestValue) : Type 0 where
  pub entry : IsUtf8 a.entry
  pub attributes : AllByRecursion (λ x. IsUtf8 x.description × HasAValue x) a.attributes

-- the content of a change
abbrev pub change_content : ChangeValue → List ℕ
change_content k = number_bytes 10 (modify_number k.operation) ++ attribute_bytes k.modification

-- a change
abbrev pub change_bytes : ChangeValue → List ℕ
change_bytes k = element_bytes 48 (change_content k)

-- the content of a modify
abbrev pub modify_content : ModifyRequestValue → List ℕ
modify_content m = element_bytes 4 m.object ++ element_bytes 48 (row_bytes change_bytes m.changes)

-- the content of a modifyDN
abbrev pub modify_dn_content : ModifyDnRequestValue → List ℕ
modify_dn_content d =
    element_bytes 4 d.entry ++ element_bytes 4 d.newrdn ++ element_bytes 1 (flag_octets d.deleteoldrdn) ++
    optional_bytes 128 d.new_superior

-- texts are UTF-8
pub record IsModifyInRange (m : ModifyRequestValue) : Type 0 where
  pub object : IsUtf8 m.object
  pub changes : AllByRecursion (λ k. IsUtf8 k.modification.description) m.changes

-- texts are UTF-8
pub record IsModifyDnInRange (d : ModifyDnRequestValue) : Type 0 where
  pub entry : IsUtf8 d.entry
  pub newrdn : IsUtf8 d.newrdn
  pub new_superior : IsTextOrNone d.new_superior
