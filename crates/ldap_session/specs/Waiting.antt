-- Which messages may have to wait for others. The messages that are to be answered come in; what stands next comes out.
use Rattle.std.specs.Prelude.{ℕ, List, [], ◌∷◌, Bool, true, false, Option, Some, None, cond}
use Rattle.session_handler.specs.ldap_msg.Messages.{MessageValue, OperationValue, request, response, RequestValue, bind}
use Rattle.session_handler.specs.ldap_msg.Kinds.{request_kind}
use Rattle.session_handler.specs.ldap_msg.declared.kinds.RequestKind.{RequestKind}
use Rattle.session_handler.specs.ldap_msg.declared.kinds.RequestKind.TheVariants.{Search}
use Rattle.session_handler.specs.ldap_ber.declared.message_fault.MsgFault.{MsgFault}
use Rattle.session_handler.specs.Waiting.{may_update}
use Rattle.session_handler.specs.declared.state.State.{State}
use Rattle.ldap_framer.specs.Framed.{Framed}
use Rattle.ldap_session.specs.View.{SessionValue}
use Rattle.ldap_session.specs.declared.due.Due.{Due}
use Rattle.ldap_session.specs.declared.due.Due.TheVariants.{Nothing, Update, Other}
use Rattle.ldap_session.specs.declared.end.SessionEnd.{SessionEnd}

-- behind the last whole message: nothing, or what is no message
abbrev pub due_at_last : Option MsgFault → Due
due_at_last None = Nothing
due_at_last (Some fault) = Other

-- what stands next in a stream, in a session of this state
abbrev pub due_of : State → List MessageValue → Option MsgFault → Due
due_of s [] fault = due_at_last fault
due_of s (m ∷ ms) fault = cond (may_update s m) Update Other

-- what stands next in a conversation that is over, or is not
abbrev pub due : Option SessionEnd → SessionValue → Due
due (Some end) s = Nothing
due None s = due_of s.state s.framed.ready s.framed.fault

-- the name in a bind, which is empty for nobody (RFC 4511 4.2); none, in any other request
abbrev pub bind_name : RequestValue → Option (List ℕ)
bind_name (bind b) = Some b.name
bind_name other = None

-- whether requests of this kind are searches
abbrev pub is_search_kind : RequestKind → Bool
is_search_kind Search = true
is_search_kind other = false

-- whether a request is a search (RFC 4511 4.5)
abbrev pub is_search : RequestValue → Bool
is_search r = is_search_kind (request_kind r)

-- whether an operation is one
abbrev pub is_search_in : OperationValue → Bool
is_search_in (request r) = is_search r
is_search_in (response r) = false

-- whether a search stands next, of these messages
abbrev pub is_search_of : List MessageValue → Bool
is_search_of [] = false
is_search_of (m ∷ ms) = is_search_in m.op

-- the same in a conversation that is over, or is not
abbrev pub is_search_next : Option SessionEnd → Framed → Bool
is_search_next (Some end) f = false
is_search_next None f = is_search_of f.ready

-- the name that a bind request names
abbrev pub bind_name_in : OperationValue → Option (List ℕ)
bind_name_in (request r) = bind_name r
bind_name_in (response r) = None

-- the name in the bind that stands next, of these messages
abbrev pub bind_of : List MessageValue → Option (List ℕ)
bind_of [] = None
bind_of (m ∷ ms) = bind_name_in m.op

-- the same in a conversation that is over, or is not
abbrev pub bind_next : Option SessionEnd → Framed → Option (List ℕ)
bind_next (Some end) f = None
bind_next None f = bind_of f.ready
