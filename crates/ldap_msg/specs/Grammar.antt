-- The octets that spell a message (RFC 4511 4 and Appendix B; X.690 as RFC 4511 5.1 narrows it).
use Rattle.std.specs.Prelude.{◌^◌, ◌≤◌, ℕ, List, []}
use Rattle.ldap_requests.specs.ldap_ber.Fields.{Seq, HasNumber, HasPart}
use Rattle.ldap_parts.specs.Grammar.{IsLdapResult, AreControls}
use Rattle.ldap_requests.specs.Grammar.{IsBindRequest, IsUnbindRequest, IsSearchRequest, IsCompareRequest, IsAbandonRequest, IsExtendedRequest}
use Rattle.ldap_parts.specs.UpdateGrammar.{IsModifyRequest, IsAddRequest, IsDelRequest, IsModifyDnRequest}
use Rattle.ldap_parts.specs.ResponseGrammar.{IsSearchResultEntry, IsExtendedResponse}
use Rattle.ldap_msg.specs.Kinds.{request_kind}
use Rattle.ldap_msg.specs.declared.kinds.RequestKind.{RequestKind}
use Rattle.ldap_msg.specs.declared.kinds.RequestKind.TheVariants.{Bind, Unbind, Search, Modify, Add, Delete, ModifyDn, Compare, Abandon, Extended}
use Rattle.ldap_msg.specs.Messages.{bind, unbind, search, modify, add, delete, modify_dn, compare, abandon, extended_request, RequestValue, bind_response, search_entry, search_done, modify_response, add_response, delete_response, modify_dn_response, compare_response, extended, ResponseValue, OperationValue, request, response, MessageValue}

-- the first octet of a request of this kind: its application tag, constructed but for a NULL, a text or an integer (RFC
-- 4511 4.2 to 4.12)
abbrev pub first_octet : RequestKind → ℕ
first_octet Bind = 96
first_octet Unbind = 66
first_octet Search = 99
first_octet Modify = 102
first_octet Add = 104
first_octet Delete = 74
first_octet ModifyDn = 108
first_octet Compare = 110
first_octet Abandon = 80
first_octet Extended = 119

-- the first octet of a request
abbrev pub request_octet : RequestValue → ℕ
request_octet r = first_octet (request_kind r)

-- the content of a request
abbrev pub IsRequestContent : RequestValue → List ℕ → Type 0
IsRequestContent (bind x) content = IsBindRequest x content
IsRequestContent unbind content = IsUnbindRequest content
IsRequestContent (search x) content = IsSearchRequest x content
IsRequestContent (modify x) content = IsModifyRequest x content
IsRequestContent (add x) content = IsAddRequest x content
IsRequestContent (delete x) content = IsDelRequest x content
IsRequestContent (modify_dn x) content = IsModifyDnRequest x content
IsRequestContent (compare x) content = IsCompareRequest x content
IsRequestContent (abandon x) content = IsAbandonRequest x content
IsRequestContent (extended_request x) content = IsExtendedRequest x content

-- the first octet of a response: its application tag, constructed (RFC 4511 4.2 to 4.12)
abbrev pub response_octet : ResponseValue → ℕ
response_octet (bind_response x) = 97
response_octet (search_entry x) = 100
response_octet (search_done x) = 101
response_octet (modify_response x) = 103
response_octet (add_response x) = 105
response_octet (delete_response x) = 107
response_octet (modify_dn_response x) = 109
response_octet (compare_response x) = 111
response_octet (extended x) = 120

-- the content of a response
abbrev pub IsResponseContent : ResponseValue → List ℕ → Type 0
IsResponseContent (bind_response x) content = IsLdapResult x content
IsResponseContent (search_entry x) content = IsSearchResultEntry x content
IsResponseContent (search_done x) content = IsLdapResult x content
IsResponseContent (modify_response x) content = IsLdapResult x content
IsResponseContent (add_response x) content = IsLdapResult x content
IsResponseContent (delete_response x) content = IsLdapResult x content
IsResponseContent (modify_dn_response x) content = IsLdapResult x content
IsResponseContent (compare_response x) content = IsLdapResult x content
IsResponseContent (extended x) content = IsExtendedResponse x content

-- the first octet of an operation
abbrev pub operation_octet : OperationValue → ℕ
operation_octet (request r) = request_octet r
operation_octet (response r) = response_octet r

-- the content of an operation
abbrev pub IsOperation : OperationValue → List ℕ → Type 0
IsOperation (request r) content = IsRequestContent r content
IsOperation (response r) content = IsResponseContent r content

-- protocolOp CHOICE (RFC 4511 4.1.1)
abbrev pub HasOperation : OperationValue → List ℕ → List ℕ → Type 0
HasOperation op octets rest = HasPart (IsOperation op) octets (operation_octet op) rest

-- The messageID of a request is not zero (RFC 4511 4.1.1.1).
abbrev pub IsIdFor : OperationValue → ℕ → Type 0
IsIdFor (request r) id = 1 ≤ id
IsIdFor (response r) id = Unit {0}

-- The content of LDAPMessage: messageID INTEGER (0 .. maxInt), protocolOp CHOICE, controls [0] Controls OPTIONAL.
pub record IsMessageContent (m : MessageValue) (content : List ℕ) : Type 0 where
  pub parts : Seq (HasNumber content 2 (2 ^ 31) m.id) (λ octets. Seq (HasOperation m.op octets)
      (AreControls m.controls))
  pub id_for : IsIdFor m.op m.id

-- LDAPMessage ::= SEQUENCE (RFC 4511 4.1.1), the whole of the octets
abbrev pub IsMessage : List ℕ → MessageValue → Type 0
IsMessage octets m = HasPart (IsMessageContent m) octets 48 []
