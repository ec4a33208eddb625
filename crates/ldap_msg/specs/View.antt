-- The value that a message in memory stands for.
use Rattle.std.specs.Prelude.{map, string_bytes}
pub use Rattle.ldap_parts.specs.View.{attribute_view, result_view, control_view}
pub use Rattle.ldap_requests.specs.View.{bind_view, search_view, compare_view, extended_request_view}
pub use Rattle.ldap_parts.specs.UpdateView.{modify_view, add_view, modify_dn_view}
pub use Rattle.ldap_parts.specs.ResponseView.{entry_view, extended_view}
use Rattle.ldap_msg.specs.Messages.{RequestValue, bind, unbind, search, modify, add, delete, modify_dn, compare, abandon, extended_request, ResponseValue, bind_response, search_entry, search_done, modify_response, add_response, delete_response, modify_dn_response, compare_response, extended, OperationValue, request, response, MessageValue}
use Rattle.ldap_msg.specs.declared.message.Request.{Request}
use Rattle.ldap_msg.specs.declared.message.Request.TheVariants.{Bind, Unbind, Search, Modify, Add, Delete, ModifyDn, Compare, Abandon, Extended}
use Rattle.ldap_msg.specs.declared.message.Response.{Response}
use Rattle.ldap_msg.specs.declared.message.Response.TheVariants.{Bind as BindResponse, SearchEntry, SearchDone, Modify as ModifyResponse, Add as AddResponse, Delete as DeleteResponse, ModifyDn as ModifyDnResponse, Compare as CompareResponse, Extended as ExtendedResponse}
use Rattle.ldap_msg.specs.declared.message.ProtocolOp.{ProtocolOp}
use Rattle.ldap_msg.specs.declared.message.ProtocolOp.TheVariants.{Request as RequestOp, Response as ResponseOp}
use Rattle.ldap_msg.specs.declared.message.Message.{Message}

-- the value of a request
abbrev pub request_view : Request → RequestValue
request_view (Bind x) = bind (bind_view x)
request_view Unbind = unbind
request_view (Search x) = search (search_view x)
request_view (Modify x) = modify (modify_view x)
request_view (Add x) = add (add_view x)
request_view (Delete x) = delete (string_bytes x)
request_view (ModifyDn x) = modify_dn (modify_dn_view x)
request_view (Compare x) = compare (compare_view x)
request_view (Abandon x) = abandon x
request_view (Extended x) = extended_request (extended_request_view x)

-- the value of a response
abbrev pub response_view : Response → ResponseValue
response_view (BindResponse x) = bind_response (result_view x)
response_view (SearchEntry x) = search_entry (entry_view x)
response_view (SearchDone x) = search_done (result_view x)
response_view (ModifyResponse x) = modify_response (result_view x)
response_view (AddResponse x) = add_response (result_view x)
response_view (DeleteResponse x) = delete_response (result_view x)
response_view (ModifyDnResponse x) = modify_dn_response (result_view x)
response_view (CompareResponse x) = compare_response (result_view x)
response_view (ExtendedResponse x) = extended (extended_view x)

-- the value of an operation
abbrev pub operation_view : ProtocolOp → OperationValue
operation_view (RequestOp r) = request (request_view r)
operation_view (ResponseOp r) = response (response_view r)

-- the value of a message
abbrev pub view : Message → MessageValue
view m = record { id = m.id; op = operation_view m.op; controls = map control_view m.controls.items }
