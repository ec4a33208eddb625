-- What sessions and conversations in memory stand for.
use Rattle.std.specs.Prelude.{ℕ, List, Option}
use Rattle.ldap_framer.specs.Framed.{Framed}
use Rattle.ldap_framer.specs.View.{framed}
use Rattle.session_handler.specs.declared.state.State.{State}
use Rattle.ldap_session.specs.declared.conversation.Conversation.{Conversation}
use Rattle.ldap_session.specs.declared.end.SessionEnd.{SessionEnd}
use Rattle.ldap_session.specs.declared.session.Session.{Session}

-- a session: what of its stream is not answered yet, and its state
pub record SessionValue : Type 0 where
  pub framed : Framed
  pub state : State

-- the value that a session stands for
abbrev pub session_view : Session → SessionValue
session_view s = record { framed = framed s.framer; state = s.state }

-- a conversation: a session, the octets that it said and that are not sent, and how it ended, if it did
pub record ConversationValue : Type 0 where
  pub session : SessionValue
  pub unsent : List ℕ
  pub end : Option SessionEnd

-- the value that a conversation stands for
abbrev pub conversation_view : Conversation → ConversationValue
conversation_view c = record { session = session_view c.session; unsent = c.unsent.items; end = c.end }
