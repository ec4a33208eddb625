-- What a message was heard as.
use Rattle.std.specs.Prelude.{◌≡◌}
use Rattle.request_checks.specs.ldap_msg.Messages.{RequestValue, MessageValue}
use Rattle.request_checks.specs.ldap_msg.View.{request_view}
use Rattle.request_checks.specs.Requests.{answering_of}
use Rattle.session_handler.specs.Session.{at_once, after_role, due, silent, disconnected, refused_with}
use Rattle.session_handler.specs.declared.state.State.{State}
use Rattle.session_handler.specs.declared.pending.Pending.{Pending}
use Rattle.session_handler.specs.declared.hearing.Heard.{Heard}
use Rattle.session_handler.specs.declared.hearing.Heard.TheVariants.{NoRequest, Silence, Refusal, Question}

-- what waits for its answer is this request of this message
pub record IsPending (p : Pending) (r : RequestValue) (m : MessageValue) : Type 0 where
  pub id_is : p.id ≡ m.id
  pub kind_is : p.answering ≡ answering_of r
  pub asks : (s : State) → due s m ≡ after_role r p.named

-- a message was heard as what it is before anything is asked, in each state
abbrev pub IsHeard : Heard → MessageValue → Type 0
IsHeard NoRequest m = (s : State) → due s m ≡ at_once (disconnected s)
IsHeard (Silence next) m = (s : State) → due s m ≡ at_once (silent s next)
IsHeard (Refusal id answering code) m = (s : State) → due s m ≡ at_once (refused_with s id answering code)
IsHeard (Question pending request) m = IsPending pending (request_view request) m
