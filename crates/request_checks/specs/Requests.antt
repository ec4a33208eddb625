-- Requests by what they ask for: RFC 4511 4.2 to 4.12.
use Rattle.std.specs.Prelude.{ℕ, List, Bool, true, false, cond, codes, Option, None, Some, is_some}
use Rattle.std.specs.Str.{bytes_eq}
use Rattle.ldap_msg.specs.Kinds.{request_kind}
use Rattle.ldap_msg.specs.declared.kinds.RequestKind.{RequestKind}
use Rattle.ldap_msg.specs.declared.kinds.RequestKind.TheVariants as request
use Rattle.ldap_msg.specs.Messages.{ExtendedRequestValue, LdapResultValue, RequestValue, bind, unbind, search, modify, add, delete, modify_dn, compare, abandon, extended_request, ResponseValue, bind_response, search_done, modify_response, add_response, delete_response, modify_dn_response, compare_response, extended}
use Rattle.ldap_op.specs.Values.{OpValue}
use Rattle.ldap_op.specs.Values as op
use Rattle.request_checks.specs.declared.controls.Kind.{Kind}
use Rattle.request_checks.specs.declared.controls.Kind.TheVariants.{Read, Update, Other}
use Rattle.request_checks.specs.declared.requests.Answering.{Answering}
use Rattle.request_checks.specs.declared.requests.Answering.TheVariants.{Bind, Search, Modify, Add, Delete, ModifyDn, Compare, Extended}

-- the extended request for an update that changes nothing and takes a number
abbrev pub noop_request : List ℕ
noop_request = codes "2.25.20120103"

-- whether an extended request is the no-op's
abbrev pub is_noop : ExtendedRequestValue → Bool
is_noop x = bytes_eq x.request_name noop_request

-- the update that a request is, if it is one
abbrev pub update_of : RequestValue → Option OpValue
update_of (bind b) = None
update_of unbind = None
update_of (search q) = None
update_of (modify m) = Some (op.modify m)
update_of (add a) = Some (op.add a)
update_of (delete name) = Some (op.delete name)
update_of (modify_dn m) = Some (op.modify_dn m)
update_of (compare c) = None
update_of (abandon id) = None
update_of (extended_request x) = cond (is_noop x) (Some op.noop) None

-- whether a request of this kind reads
abbrev pub is_read : RequestKind → Bool
is_read request.Search = true
is_read request.Compare = true
is_read other = false

-- the kind of a request to its controls
abbrev pub kind_of : RequestValue → Kind
kind_of r = cond (is_some (update_of r)) Update (cond (is_read (request_kind r)) Read Other)

-- the kind of the response that answers a request of this kind; an unbind and an abandon are never answered
abbrev pub answering_for : RequestKind → Answering
answering_for request.Bind = Bind
answering_for request.Search = Search
answering_for request.Modify = Modify
answering_for request.Add = Add
answering_for request.Delete = Delete
answering_for request.ModifyDn = ModifyDn
answering_for request.Compare = Compare
answering_for other = Extended

-- the kind of the response that answers a request
abbrev pub answering_of : RequestValue → Answering
answering_of r = answering_for (request_kind r)

-- A result in a response of this kind; the value is an extended response's alone, which has no name (RFC 4511 4.2.2 to
-- 4.12).
abbrev pub response_to : Answering → LdapResultValue → Option (List ℕ) → ResponseValue
response_to Bind r value = bind_response r
response_to Search r value = search_done r
response_to Modify r value = modify_response r
response_to Add r value = add_response r
response_to Delete r value = delete_response r
response_to ModifyDn r value = modify_dn_response r
response_to Compare r value = compare_response r
response_to Extended r value = extended (record { result = r; response_name = None; response_value = value })
