-- Which messages may ask for an update. A session's state and a message come in; yes or no comes out.
use Rattle.std.specs.Prelude.{◌≡◌, List, Bool, true, false, ◌&&◌, is_some, is_ok}
use Rattle.request_checks.specs.ldap_msg.Messages.{ControlValue, OperationValue, request, response, MessageValue}
use Rattle.directory_api.specs.Talk.{Exchange}
use Rattle.directory_api.specs.Counting.{updates_in}
use Rattle.request_checks.specs.Controls.{judged}
use Rattle.request_checks.specs.Requests.{update_of, kind_of}
use Rattle.request_checks.specs.declared.identity.Identity.{Identity}
use Rattle.request_checks.specs.declared.identity.Identity.TheVariants.{Anonymous, Manager}
use Rattle.session_handler.specs.Session.{ConfigValue, Reaction}
use Rattle.session_handler.specs.declared.state.State.{State}
use Rattle.session_handler.specs.Turns.{Turn}

-- whether a session is the manager's
abbrev pub is_manager : Identity → Bool
is_manager Anonymous = false
is_manager Manager = true

-- whether an operation is an update, and its controls don't refuse it
abbrev pub is_update : List ControlValue → OperationValue → Bool
is_update controls (request r) = is_some (update_of r) && is_ok (judged (kind_of r) controls)
is_update controls (response r) = false

-- Whether a message may ask for an update: it is one of the manager's, and its controls don't refuse it.
abbrev pub may_update : State → MessageValue → Bool
may_update s m = is_manager s.identity && is_update m.controls m.op

-- No other message asks for one.
abbrev pub OthersDoNotUpdate : Type 0 → Type 0
OthersDoNotUpdate T = (c : ConfigValue) (s : State) (m : MessageValue) (talk : List (Exchange T)) (a : Reaction) →
    Turn c s m talk a → may_update s m ≡ false → updates_in talk ≡ 0
