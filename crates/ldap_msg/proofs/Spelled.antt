-- What is written for values in their ranges is in the grammar.
use Rattle.std.proofs.Common.{◌≡◌, ◌^◌, ◌%◌, ◌<◌, ℕ, List, [], ◌++◌, length, refl, sym, subst, ◌∙◌, arith}
use Rattle.std.specs.Str.{IsUtf8}
use Rattle.std.proofs.lemmas.List.{append-nil}
use Rattle.ldap_requests.specs.ldap_ber.Written.{number_bytes, row_or_none_bytes}
use Rattle.ldap_requests.proofs.ldap_ber.Spelled.{IsShort, inner, left, right, number, small_number, part, row_or_none, regroup_three}
use Rattle.ldap_parts.specs.Grammar.{HasControl, AreControls}
use Rattle.ldap_requests.specs.ldap_ber.Rows.{none}
use Rattle.ldap_parts.specs.Written.{control_bytes}
use Rattle.ldap_parts.proofs.Spelled.{control, plain as result_written}
use Rattle.ldap_requests.proofs.Binds.{bind_written}
use Rattle.ldap_requests.proofs.Spelled.{search_request as search_written}
use Rattle.ldap_parts.proofs.Modifies.{modify_written}
use Rattle.ldap_parts.proofs.UpdatesSpelled.{add as add_written}
use Rattle.ldap_parts.proofs.Names.{delete_written, modify_dn_written}
use Rattle.ldap_requests.proofs.Compares.{compare_written}
use Rattle.ldap_requests.proofs.Extends.{abandon_written, extended_request_written}
use Rattle.ldap_parts.proofs.ResponsesSpelled.{entry as search_entry_written, extended_response as extended_written}
use Rattle.ldap_msg.specs.Messages.{bind, unbind, search, modify, add, delete, modify_dn, compare, abandon, extended_request, RequestValue, bind_response, search_entry, search_done, modify_response, add_response, delete_response, modify_dn_response, compare_response, extended, ResponseValue, OperationValue, request, response, MessageValue}
use Rattle.ldap_msg.specs.Grammar.{request_octet, IsRequestContent, response_octet, IsResponseContent, operation_octet, IsOperation, IsMessageContent, IsMessage}
use Rattle.ldap_msg.specs.Written.{request_content, response_content, operation_content, operation_bytes, message_content, message_bytes, IsRequestInRange, IsResponseInRange, IsOperationInRange, IsInRange}

request_written : (r : RequestValue) → IsRequestInRange r → IsShort (request_content r) →
    IsRequestContent r (request_content r)
request_written (bind x) range small = bind_written x range small
request_written unbind range small = refl
request_written (search x) range small = search_written x range small
request_written (modify x) range small = modify_written x range small
request_written (add x) range small = add_written x range small
request_written (delete x) range small = delete_written x range small
request_written (modify_dn x) range small = modify_dn_written x range small
request_written (compare x) range small = compare_written x range small
request_written (abandon x) range small = abandon_written x range small
request_written (extended_request x) range small = extended_request_written x range small

response_written : (r : ResponseValue) → IsResponseInRange r → IsShort (response_content r) →
    IsResponseContent r (response_content r)
response_written (bind_response x) range small = result_written x range small
response_written (search_entry x) range small = search_entry_written x range small
response_written (search_done x) range small = result_written x range small
response_written (modify_response x) range small = result_written x range small
response_written (add_response x) range small = result_written x range small
response_written (delete_response x) range small = result_written x range small
response_written (modify_dn_response x) range small = result_written x range small
response_written (compare_response x) range small = result_written x range small
response_written (extended x) range small = extended_written x range small

operation : (op : OperationValue) → IsOperationInRange op → IsShort (operation_content op) →
    IsOperation op (operation_content op)
operation (request r) range small = request_written r range small
operation (response r) range small = response_written r range small

low_request : (r : RequestValue) → request_octet r % 32 < 31
low_request (bind x) = omega arith
low_request unbind = omega arith
low_request (search x) = omega arith
low_request (modify x) = omega arith
low_request (add x) = omega arith
low_request (delete x) = omega arith
low_request (modify_dn x) = omega arith
low_request (compare x) = omega arith
low_request (abandon x) = omega arith
low_request (extended_request x) = omega arith

low_response : (r : ResponseValue) → response_octet r % 32 < 31
low_response (bind_response x) = omega arith
low_response (search_entry x) = omega arith
low_response (search_done x) = omega arith
low_response (modify_response x) = omega arith
low_response (add_response x) = omega arith
low_response (delete_response x) = omega arith
low_response (modify_dn_response x) = omega arith
low_response (compare_response x) = omega arith
low_response (extended x) = omega arith

low : (op : OperationValue) → operation_octet op % 32 < 31
low (request r) = low_request r
low (response r) = low_response r

content : (m : MessageValue) → IsInRange m → IsShort (message_content m) → IsMessageContent m (message_content m)
content m range small =
    let a = number_bytes 2 m.id in
    let b = operation_bytes m.op in
    let d = row_or_none_bytes control_bytes 160 m.controls in
    let b_short = inner (operation_octet m.op) (operation_content m.op) (right a b (left (a ++ b) d small)) in
    let d_short = right (a ++ b) d small in
    let whole : a ++ (b ++ (d ++ [])) ≡ a ++ b ++ d = sym (regroup_three a b d []) ∙ append-nil (a ++ b ++ d) in
    let controls : AreControls m.controls (d ++ []) = record {
      rest = [];
      first = row_or_none HasControl control_bytes
          (λ k. IsUtf8 k.control_type) control 160 m.controls [] (omega arith) range.controls d_short tt;
      next =
          none;
    } in
    subst (IsMessageContent m) whole (record {
      parts = record {
        rest = b ++ (d ++ []);
        first = number 2 (2 ^ 31) m.id (b ++ (d ++ [])) (omega arith) range.id (small_number m.id range.id);
        next = record {
          rest = d ++ [];
          first = part (IsOperation m.op) (operation_octet m.op)
              (operation_content m.op) (d ++ []) (low m.op) b_short (operation m.op range.op b_short);
          next = controls;
        };
      };
      id_for = range.id_for;
    })

pub is_message : (m : MessageValue) → IsInRange m → length (message_content m) < 4294967296 →
    IsMessage (message_bytes m) m
is_message m range small =
    subst (λ (o : List ℕ). IsMessage o m) (append-nil (message_bytes m))
    (part (IsMessageContent m) 48 (message_content m) [] (omega arith) small (content m range small))
