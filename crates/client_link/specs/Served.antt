-- Sessions that one directory served, one after the other.
use Rattle.std.specs.Prelude.{ℕ, List, [], ◌∷◌, ◌++◌}
use Rattle.ldap_session.specs.directory_api.Talk.{Exchange, Along}
use Rattle.ldap_session.specs.session_handler.ldap_msg.Messages.{MessageValue}
use Rattle.ldap_session.specs.session_handler.Session.{ConfigValue, at_first}
use Rattle.ldap_session.specs.session_handler.Turns.{Session}
use Rattle.ldap_session.specs.session_handler.declared.state.State.{State}
use Rattle.ldap_session.specs.session_handler.declared.answered.Next.{Next}

-- what the sessions of a server share, for the session of this number
abbrev pub config_of : ConfigValue → ℕ → ConfigValue
config_of c session = record c { client = record c.client { number = session } }

-- A session was served from its beginning: the directory went along all that it asked, and no more.
pub record HasServed {D T : Type 0} (allows : D → Exchange T → D → Type 0) (c : ConfigValue) (d e : D) : Type 0 where
  pub handed : List MessageValue
  pub talk : List (Exchange T)
  pub state : State
  pub responses : List MessageValue
  pub next : Next
  pub session : Session c at_first handed talk state responses next
  pub along : Along allows d talk e

-- Sessions of these numbers were served in turn, and nothing else was asked.
pub data ServedInTurn {D T : Type 0} (allows : D → Exchange T → D → Type 0) (c : ConfigValue) : D → List ℕ → D →
    Type 0 where
  none : {d : D} → ServedInTurn allows c d [] d
  one_more : {d e f : D} {sessions : List ℕ} (session : ℕ) → ServedInTurn allows c d sessions e →
      HasServed allows (config_of c session) e f →
      ServedInTurn allows c d (sessions ++ session ∷ []) f

-- sessions of some numbers were served in turn
abbrev pub HasServedSome : {D T : Type 0} → (D → Exchange T → D → Type 0) → ConfigValue → D → D → Type 0
HasServedSome allows c d e = (sessions : List ℕ) × ServedInTurn allows c d sessions e

-- Sessions in turn are one talk.
abbrev pub GoesAlong : {D T : Type 0} → (D → Exchange T → D → Type 0) → Type 0
GoesAlong {D} {T} allows = (c : ConfigValue) (d e : D) (sessions : List ℕ) → ServedInTurn allows c d sessions e →
    (talk : List (Exchange T)) × Along allows d talk e
