-- A message without where it lies in memory (RFC 4511 4); a text is its octets.
use Rattle.std.specs.Prelude.{ℕ, ℤ, List}
pub use Rattle.ldap_parts.specs.Values.{PartialAttributeValue, LdapResultValue, ControlValue}
pub use Rattle.ldap_requests.specs.Values.{BindRequestValue, SearchRequestValue, CompareRequestValue, ExtendedRequestValue}
pub use Rattle.ldap_parts.specs.UpdateValues.{ModifyRequestValue, AddRequestValue, ModifyDnRequestValue}
pub use Rattle.ldap_parts.specs.ResponseValues.{SearchResultEntryValue, ExtendedResponseValue}

-- an operation that a client sends
pub data RequestValue : Type 0 where
  bind : BindRequestValue → RequestValue
  unbind : RequestValue
  search : SearchRequestValue → RequestValue
  modify : ModifyRequestValue → RequestValue
  add : AddRequestValue → RequestValue
  delete : List ℕ → RequestValue
  modify_dn : ModifyDnRequestValue → RequestValue
  compare : CompareRequestValue → RequestValue
  abandon : ℤ → RequestValue
  extended_request : ExtendedRequestValue → RequestValue

-- an operation that a server sends
pub data ResponseValue : Type 0 where
  bind_response : LdapResultValue → ResponseValue
  search_entry : SearchResultEntryValue → ResponseValue
  search_done : LdapResultValue → ResponseValue
  modify_response : LdapResultValue → ResponseValue
  add_response : LdapResultValue → ResponseValue
  delete_response : LdapResultValue → ResponseValue
  modify_dn_response : LdapResultValue → ResponseValue
  compare_response : LdapResultValue → ResponseValue
  extended : ExtendedResponseValue → ResponseValue

-- protocolOp
pub data OperationValue : Type 0 where
  request : RequestValue → OperationValue
  response : ResponseValue → OperationValue

-- LDAPMessage (RFC 4511 4.1.1); no controls are an empty list
pub record MessageValue : Type 0 where
  pub id : ℕ
  pub op : OperationValue
  pub controls : List ControlValue
