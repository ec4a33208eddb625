-- The one spelling of a message that is written: shortest lengths, no DEFAULT, TRUE as FF (RFC 4511 5.1).
use Rattle.std.specs.Prelude.{◌^◌, ◌<◌, ℕ, List, [], ◌++◌}
use Rattle.std.specs.Str.{IsUtf8}
use Rattle.std.specs.List.{AllByRecursion}
use Rattle.ldap_requests.specs.ldap_ber.Element.{element_bytes}
use Rattle.ldap_requests.specs.ldap_ber.Values.{integer_octets, IsLong}
use Rattle.ldap_requests.specs.ldap_ber.Written.{number_bytes, row_or_none_bytes}
use Rattle.ldap_parts.specs.Written.{result_content, control_bytes, IsResultInRange}
use Rattle.ldap_requests.specs.Written.{bind_content, search_content, compare_content, extended_request_content, IsBindInRange, IsSearchInRange, IsCompareInRange, IsExtendedRequestInRange}
use Rattle.ldap_parts.specs.UpdatesWritten.{modify_content, add_content, modify_dn_content, IsModifyInRange, IsAddInRange, IsModifyDnInRange}
use Rattle.ldap_parts.specs.ResponsesWritten.{entry_content, extended_content, IsEntryInRange, IsExtendedInRange}
use Rattle.ldap_msg.specs.Messages.{bind, unbind, search, modify, add, delete, modify_dn, compare, abandon, extended_request, RequestValue, bind_response, search_entry, search_done, modify_response, add_response, delete_response, modify_dn_response, compare_response, extended, ResponseValue, OperationValue, request, response, MessageValue}
use Rattle.ldap_msg.specs.Grammar.{operation_octet, IsIdFor}

-- the content of a request
abbrev pub request_content : RequestValue → List ℕ
request_content (bind x) = bind_content x
request_content unbind = []
request_content (search x) = search_content x
request_content (modify x) = modify_content x
request_content (add x) = add_content x
request_content (delete x) = x
request_content (modify_dn x) = modify_dn_content x
request_content (compare x) = compare_content x
request_content (abandon x) = integer_octets x
request_content (extended_request x) = extended_request_content x

-- the content of a response
abbrev pub response_content : ResponseValue → List ℕ
response_content (bind_response x) = result_content x
response_content (search_entry x) = entry_content x
response_content (search_done x) = result_content x
response_content (modify_response x) = result_content x
response_content (add_response x) = result_content x
response_content (delete_response x) = result_content x
response_content (modify_dn_response x) = result_content x
response_content (compare_response x) = result_content x
response_content (extended x) = extended_content x

-- the content of an operation
abbrev pub operation_content : OperationValue → List ℕ
operation_content (request r) = request_content r
operation_content (response r) = response_content r

-- an operation
abbrev pub operation_bytes : OperationValue → List ℕ
operation_bytes op = element_bytes (operation_octet op) (operation_content op)

-- the content of a message
abbrev pub message_content : MessageValue → List ℕ
message_content m = number_bytes 2 m.id ++ operation_bytes m.op ++ row_or_none_bytes control_bytes 160 m.controls

-- the one spelling of a message that is written
abbrev pub message_bytes : MessageValue → List ℕ
message_bytes m = element_bytes 48 (message_content m)

-- texts are UTF-8, and numbers in their ranges
abbrev pub IsRequestInRange : RequestValue → Type 0
IsRequestInRange (bind x) = IsBindInRange x
IsRequestInRange unbind = Unit {0}
IsRequestInRange (search x) = IsSearchInRange x
IsRequestInRange (modify x) = IsModifyInRange x
IsRequestInRange (add x) = IsAddInRange x
IsRequestInRange (delete x) = IsUtf8 x
IsRequestInRange (modify_dn x) = IsModifyDnInRange x
IsRequestInRange (compare x) = IsCompareInRange x
IsRequestInRange (abandon x) = IsLong x
IsRequestInRange (extended_request x) = IsExtendedRequestInRange x

-- texts are UTF-8, and numbers in their ranges
abbrev pub IsResponseInRange : ResponseValue → Type 0
IsResponseInRange (bind_response x) = IsResultInRange x
IsResponseInRange (search_entry x) = IsEntryInRange x
IsResponseInRange (search_done x) = IsResultInRange x
IsResponseInRange (modify_response x) = IsResultInRange x
IsResponseInRange (add_response x) = IsResultInRange x
IsResponseInRange (delete_response x) = IsResultInRange x
IsResponseInRange (modify_dn_response x) = IsResultInRange x
IsResponseInRange (compare_response x) = IsResultInRange x
IsResponseInRange (extended x) = IsExtendedInRange x

-- texts are UTF-8, and numbers in their ranges
abbrev pub IsOperationInRange : OperationValue → Type 0
IsOperationInRange (request r) = IsRequestInRange r
IsOperationInRange (response r) = IsResponseInRange r

-- The values that a message can carry (RFC 4511 4.1.1.1, 4.1.2, 4.5.1, 4.1.9).
pub record IsInRange (m : MessageValue) : Type 0 where
  pub id : m.id < 2 ^ 31
  pub id_for : IsIdFor m.op m.id
  pub op : IsOperationInRange m.op
  pub controls : AllByRecursion (λ c. IsUtf8 c.control_type) m.controls
