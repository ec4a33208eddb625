-- Which operation a request is (RFC 4511 4.2 to 4.12).
use Rattle.ldap_msg.specs.Messages.{RequestValue, bind, unbind, search, modify, add, delete, modify_dn, compare, abandon, extended_request}
use Rattle.ldap_msg.specs.declared.kinds.RequestKind.{RequestKind}
use Rattle.ldap_msg.specs.declared.kinds.RequestKind.TheVariants.{Bind, Unbind, Search, Modify, Add, Delete, ModifyDn, Compare, Abandon, Extended}

-- which operation a request is, without its fields
abbrev pub request_kind : RequestValue → RequestKind
request_kind (bind x) = Bind
request_kind unbind = Unbind
request_kind (search x) = Search
request_kind (modify x) = Modify
request_kind (add x) = Add
request_kind (delete x) = Delete
request_kind (modify_dn x) = ModifyDn
request_kind (compare x) = Compare
request_kind (abandon x) = Abandon
request_kind (extended_request x) = Extended
