-- An update that has waited for too long, and a search for which there is no room. A conversation before and after
-- comes in; that the message is answered as where no primary is known, or as one that found no memory, comes out.
use Rattle.client_link.specs.session_handler.Session.{ConfigValue}
use Rattle.client_link.specs.ldap_session.View.{ConversationValue}
use Rattle.session_pool.specs.Answering.{Answers}
use Rattle.session_pool.specs.Refusing.{finds_out, has_no_memory}
use Rattle.session_pool.specs.declared.no_node.NoNode.{NoNode}
use Rattle.session_pool.specs.declared.no_room.NoRoom.{NoRoom}

-- the next message was answered by one that finds out where updates are made
pub record IsRefused (c : ConfigValue) (v w : ConversationValue) : Type 0 where
  pub before : NoNode
  pub after : NoNode
  pub answers : Answers {D = NoNode} {T = Unit {0}} finds_out c v w before after

-- the next message was answered by one that has no memory for a search
pub record FindsNoRoom (c : ConfigValue) (v w : ConversationValue) : Type 0 where
  pub before : NoRoom
  pub after : NoRoom
  pub answers : Answers {D = NoRoom} {T = Unit {0}} has_no_memory c v w before after
