-- What each request makes of a session, what it asks of the directory, and what answers it: RFC 4511 4.1.1 to 4.12.
use Rattle.std.specs.Prelude.{ℕ, ◌+◌, max, List, [], ◌∷◌, Bool, false, true, cond, nat_lt, Option, None, Some, Result, Ok, Err}
use Rattle.request_checks.specs.ldap_schema.Schema.{SchemaModel}
use Rattle.request_checks.specs.ldap_dn.Names.{RdnModel}
use Rattle.request_checks.specs.ldap_msg.Messages.{SearchRequestValue, CompareRequestValue, LdapResultValue, RequestValue, bind, unbind, search, modify, add, delete, modify_dn, compare, abandon, extended_request, OperationValue, request, response, MessageValue}
use Rattle.request_checks.specs.ldap_msg.Kinds.{request_kind}
use Rattle.request_checks.specs.ldap_msg.declared.kinds.RequestKind.{RequestKind}
use Rattle.request_checks.specs.ldap_msg.declared.kinds.RequestKind.TheVariants.{Unbind, Abandon}
use Rattle.directory_api.specs.ldap_op.Values.{OpValue}
use Rattle.directory_api.specs.Answers.{ReplyModel, only, Answer}
use Rattle.directory_api.specs.Clients.{named_client}
use Rattle.directory_api.specs.Talk.{Looked, found, not_yet, gone, no_memory, RoleValue, primary, backup, changing, recovering, EndedValue, done, stale, lost, refused_memory}
use Rattle.directory_api.specs.log_entry.declared.words.Client.{Client}
use Rattle.request_checks.specs.Numbers.{greatest}
use Rattle.request_checks.specs.Controls.{judged}
use Rattle.request_checks.specs.Binding.{bound}
use Rattle.request_checks.specs.Requests.{update_of, kind_of, answering_of, response_to}
use Rattle.request_checks.specs.Messages.{message, referral_to}
use Rattle.session_handler.specs.Responses.{result_of, code_message, done_message, search_messages, compare_messages, notice}
use Rattle.request_checks.specs.declared.identity.Identity.{Identity}
use Rattle.request_checks.specs.declared.identity.Identity.TheVariants.{Anonymous, Manager}
use Rattle.request_checks.specs.declared.bound.Bound.{Bound}
use Rattle.request_checks.specs.declared.controls.Named.{Named}
use Rattle.request_checks.specs.declared.requests.Answering.{Answering}
use Rattle.request_checks.specs.declared.requests.Answering.TheVariants.{Bind, Search, Modify, Add, Delete, ModifyDn, Compare, Extended}
use Rattle.session_handler.specs.declared.pending.Pending.{Pending}
use Rattle.session_handler.specs.declared.state.State.{State}
use Rattle.session_handler.specs.declared.answered.Next.{Next}
use Rattle.session_handler.specs.declared.answered.Next.TheVariants.{GoesOn, Unbound, Disconnected}

-- what all sessions of a server share, and a session's own client
pub record ConfigValue : Type 0 where
  pub schema : SchemaModel
  pub manager : List RdnModel
  pub password : List ℕ
  pub client : Client

-- a session's state at its beginning: anonymous (RFC 4513 4)
abbrev pub at_first : State
at_first = record { identity = Anonymous; requests = 0; floor = 0 }

-- what a message makes of a session, the responses in order, and whether it goes on
pub record Reaction : Type 0 where
  pub state : State
  pub responses : List MessageValue
  pub next : Next

-- What has no response: an unbind, which ends the session, and an abandon, which does nothing (RFC 4511 4.3, 4.11).
abbrev pub silence_at : RequestKind → Option Next
silence_at Unbind = Some Unbound
silence_at Abandon = Some GoesOn
silence_at other = None

-- What becomes of the session at a request that has no response; none, where it has one.
abbrev pub silence_of : RequestValue → Option Next
silence_of r = silence_at (request_kind r)

-- no response
abbrev pub silent : State → Next → Reaction
silent s next = record { state = s; responses = []; next = next }

-- what is no request is answered by the notice, and ends the session (RFC 4511 4.4.1)
abbrev pub disconnected : State → Reaction
disconnected s = record { state = s; responses = notice ∷ []; next = Disconnected }

-- one response, after which the session goes on
abbrev pub says : State → MessageValue → Reaction
says s m = record { state = s; responses = m ∷ []; next = GoesOn }

-- a refused bind leaves the session anonymous (RFC 4513 4)
abbrev pub identity_refused : Identity → Answering → Identity
identity_refused i Bind = Anonymous
identity_refused i Search = i
identity_refused i Modify = i
identity_refused i Add = i
identity_refused i Delete = i
identity_refused i ModifyDn = i
identity_refused i Compare = i
identity_refused i Extended = i

-- the state after a refusal
abbrev pub state_refused : State → Answering → State
state_refused s answering = record s { identity = identity_refused s.identity answering }

-- a request of this kind is refused with a result
abbrev pub refused : State → ℕ → Answering → LdapResultValue → Reaction
refused s id answering result = says (state_refused s answering) (message id (response_to answering result None) [])

-- a code alone refuses it
abbrev pub refused_with : State → ℕ → Answering → ℕ → Reaction
refused_with s id answering code = refused s id answering (result_of (only code))

-- what a message is before anything is asked: it has its reaction, or it is a request whose controls name this
pub data Due : Type 0 where
  at_once : Reaction → Due
  after_role : RequestValue → Named → Due

-- a refusal where the controls are wrong, else what follows from the role
abbrev pub due_by : State → ℕ → RequestValue → Result Named ℕ → Due
due_by s id r (Err code) = at_once (refused_with s id (answering_of r) code)
due_by s id r (Ok named) = after_role r named

-- a request with a response is refused for its controls, or goes on to be asked about
abbrev pub due_unless : State → MessageValue → RequestValue → Option Next → Due
due_unless s m r (Some next) = at_once (silent s next)
due_unless s m r None = due_by s m.id r (judged (kind_of r) m.controls)

-- what is no request disconnects
abbrev pub due_of_op : State → MessageValue → OperationValue → Due
due_of_op s m (request r) = due_unless s m r (silence_of r)
due_of_op s m (response r) = at_once (disconnected s)

-- what is due for a message
abbrev pub due : State → MessageValue → Due
due s m = due_of_op s m m.op

-- what is asked of the directory for a request: nothing, since it has its reaction, or one question
pub data Asked : Type 0 where
  nothing : Reaction → Asked
  a_search : ℕ → SearchRequestValue → Asked
  a_compare : ℕ → CompareRequestValue → Asked
  an_update : Client → ℕ → OpValue → Asked

-- the number, or 0 where none is named
abbrev pub or_zero : Option ℕ → ℕ
or_zero None = 0
or_zero (Some n) = n

-- the number that a read names: the greatest that the session has seen, or a later one that its control names
abbrev pub named_number : State → Named → ℕ
named_number s named = max s.floor (or_zero named.number)

-- a request that waits for its answer, with the messageID of its message and what its controls name
abbrev pub pending_of : ℕ → RequestValue → Named → Pending
pending_of id r named = record { id = id; answering = answering_of r; named = named }

-- nothing is asked, since a code alone refuses the request
abbrev pub refusal : State → Pending → ℕ → Asked
refusal s p code = nothing (refused_with s p.id p.answering code)

-- what a bind makes of a session
abbrev pub bound_reaction : State → ℕ → Bound → Reaction
bound_reaction s id b = says (record s { identity = b.identity }) (code_message id Bind b.code)

-- the client and the number of an update: those that its control names, or the session's own client and its next
-- number; other (80), once those are used up
abbrev pub update_as : ConfigValue → State → Pending → OpValue → Option (ℕ × ℕ) → Asked
update_as c s p u (Some named) = an_update (named_client named.0) named.1 u
update_as c s p u None = cond (nat_lt s.requests greatest) (an_update c.client (s.requests + 1) u) (refusal s p 80)

-- the manager's update: unavailable (52) while it is being found out where updates are made, referral (10) at a backup
abbrev pub update_at : ConfigValue → State → Pending → OpValue → RoleValue → Asked
update_at c s p u primary = update_as c s p u p.named.request
update_at c s p u (backup uri) = nothing (refused s p.id p.answering (referral_to uri))
update_at c s p u changing = refusal s p 52
update_at c s p u recovering = refusal s p 52

-- insufficientAccessRights (50) for an update that is not the manager's (RFC 4511 Appendix A.2)
abbrev pub update_by : Identity → ConfigValue → State → Pending → OpValue → RoleValue → Asked
update_by Anonymous c s p u role = refusal s p 50
update_by Manager c s p u role = update_at c s p u role

-- an extended request that is no update is not recognised: protocolError (2) (RFC 4511 4.12)
abbrev pub asked_of_update : ConfigValue → State → Pending → RoleValue → Option OpValue → Asked
asked_of_update c s p role None = refusal s p 2
asked_of_update c s p role (Some u) = update_by s.identity c s p u role

-- what is asked at a replica that has a state
abbrev pub asked_of : ConfigValue → State → Pending → RequestValue → RoleValue → Asked
asked_of c s p (bind b) role = nothing (bound_reaction s p.id (bound c.schema c.manager c.password b))
asked_of c s p unbind role = nothing (silent s Unbound)
asked_of c s p (search q) role = a_search (named_number s p.named) q
asked_of c s p (modify m) role = asked_of_update c s p role (update_of (modify m))
asked_of c s p (add a) role = asked_of_update c s p role (update_of (add a))
asked_of c s p (delete name) role = asked_of_update c s p role (update_of (delete name))
asked_of c s p (modify_dn m) role = asked_of_update c s p role (update_of (modify_dn m))
asked_of c s p (compare q) role = a_compare (named_number s p.named) q
asked_of c s p (abandon k) role = nothing (silent s GoesOn)
asked_of c s p (extended_request x) role = asked_of_update c s p role (update_of (extended_request x))

-- whether a replica has no state yet
abbrev pub is_recovering : RoleValue → Bool
is_recovering primary = false
is_recovering (backup uri) = false
is_recovering changing = false
is_recovering recovering = true

-- What is asked, once the role of the replica is known: nothing at one that is recovering, unavailable (52).
abbrev pub asked : ConfigValue → State → Pending → RequestValue → RoleValue → Asked
asked c s p r role = cond (is_recovering role) (refusal s p 52) (asked_of c s p r role)

-- the number that a read was answered at; 0 where it has no answer
abbrev pub number_seen : {A : Type 0} → Looked A → ℕ
number_seen (found at a) = at
number_seen (not_yet at) = 0
number_seen gone = 0
number_seen no_memory = 0

-- the session reads from this number on, which it has seen or was told
abbrev pub reading_from : State → ℕ → State
reading_from s number = record s { floor = max s.floor number }

-- what a search comes to: from where it was answered the session reads on
abbrev pub after_search : State → ℕ → Named → Looked Answer → Reaction
after_search s id named look = record {
  state = reading_from s (number_seen look);
  responses = search_messages id
      named.number look;
  next = GoesOn;
}

-- what a compare comes to: from where it was answered the session reads on
abbrev pub after_compare : State → ℕ → Named → Looked ReplyModel → Reaction
after_compare s id named look = record {
  state = reading_from s (number_seen look);
  responses = compare_messages id
      named.number look;
  next = GoesOn;
}

-- the number of the last request of the session's own client, where an update was asked: its own, or one that a control
-- names
abbrev pub requests_after : ℕ → Option (ℕ × ℕ) → ℕ
requests_after n None = n + 1
requests_after n (Some named) = n

-- the session once an update was asked: its own client's request is used up, where it was that
abbrev pub asked_state : State → Named → State
asked_state s named = record s { requests = requests_after s.requests named.request }

-- What an update comes to: its reply, with its number where the request named one; unwillingToPerform (53) where the
-- client has made a later request, other (80) where it isn't known what became of it, and without memory.
abbrev pub after_update : State → ℕ → Answering → Named → EndedValue → Reaction
after_update s id answering named (done number reply) =
    says (reading_from s number) (done_message id answering named.number number reply)
after_update s id answering named stale = refused_with s id answering 53
after_update s id answering named lost = refused_with s id answering 80
after_update s id answering named refused_memory = refused_with s id answering 80
