-- How many updates a session asks for.
use Rattle.std.specs.Prelude.{◌≤◌, length, List}
use Rattle.session_handler.specs.ldap_msg.Messages.{MessageValue}
use Rattle.session_handler.specs.directory_api.Talk.{Exchange}
use Rattle.session_handler.specs.directory_api.Counting.{updates_in}
use Rattle.session_handler.specs.Session.{ConfigValue}
use Rattle.session_handler.specs.declared.state.State.{State}
use Rattle.session_handler.specs.declared.answered.Next.{Next}
use Rattle.session_handler.specs.Turns.{Session}

-- A session asks for at most one update a message.
abbrev pub OneUpdateAMessage : Type 0 → Type 0
OneUpdateAMessage T = (c : ConfigValue) (s t : State) (ms : List MessageValue) (talk : List (Exchange T))
    (rs : List MessageValue) (next : Next) →
    Session c s ms talk t rs next → updates_in talk ≤ length ms
