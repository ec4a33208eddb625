-- What becomes of a session in the hands of a thread. The session before and after come in; what was heard and said
-- comes out.
use Rattle.std.specs.Prelude.{◌≡◌, ◌⊎◌, ◌≤◌, ℕ, List, [], take, length, Option, Some, None}
use Rattle.std.specs.Io.KnownBytes.{Consumes}
use Rattle.ldap_session.specs.View.{ConversationValue, conversation_view}
use Rattle.ldap_session.specs.Conversing.{Hears, sends}
use Rattle.ldap_session.specs.Progress.{IsAtLast}
use Rattle.ldap_session.specs.Waiting.{due}
use Rattle.ldap_session.specs.declared.due.Due.{Due}
use Rattle.ldap_session.specs.declared.due.Due.TheVariants.{Nothing as DueNothing, Update as DueUpdate, Other as DueOther}
use Rattle.ldap_session.specs.declared.end.SessionEnd.{SessionEnd}
use Rattle.ldap_session.specs.declared.end.SessionEnd.TheVariants.{ReadFailed, WriteFailed, NoMemory}
use Rattle.session_table.specs.declared.pooled.PooledSession.{PooledSession}
use Rattle.session_table.specs.declared.pooled.Then.{Then}
use Rattle.session_table.specs.declared.pooled.Then.TheVariants.{Listens, Updates, Queues, Delays, Waits, Ends as ThenEnds}

-- the conversation of a session
abbrev pub talk : PooledSession → ConversationValue
talk g = conversation_view g.conversation

-- what stands next in it
abbrev pub due_next : ConversationValue → Due
due_next v = due v.end v.session

-- it is the same session, at the same place, and owes the same
pub record IsSame (g h : PooledSession) : Type 0 where
  pub place : h.place ≡ g.place
  pub number : h.number ≡ g.number
  pub debt : h.debt ≡ g.debt

-- A front of a buffer was heard, which isn't empty: what was read of an input.
pub record HearsSome (input left : Option (List ℕ)) (v : ConversationValue) (buffer : List ℕ)
    (w : ConversationValue) : Type 0 where
  pub count : ℕ
  pub some : count ≡ 0 → ⊥
  pub consumed : Consumes input left (take count buffer)
  pub hears : Hears v (take count buffer) w

-- why a session ends at a read: its stream ended between two messages or inside one, or the read failed, or there was
-- no memory
abbrev pub IsHeardEnd : ConversationValue → SessionEnd → Type 0
IsHeardEnd v end = IsAtLast v.session end ⊎ ((end ≡ ReadFailed) ⊎ (end ≡ NoMemory))

-- a front of what was unsent is sent, and nothing else has changed
pub record HasSent (v w : ConversationValue) : Type 0 where
  pub count : ℕ
  pub within : count ≤ length v.unsent
  pub sent : w ≡ sends v count

-- all that was said is sent, the conversation goes on, and this stands next
pub record IsAllSaid (v : ConversationValue) (next : Due) : Type 0 where
  pub none_unsent : v.unsent ≡ []
  pub goes_on : v.end ≡ None
  pub next_is : due_next v ≡ next

-- What becomes of a session: it is listened to, it waits for its turn, for a while or for its client, or it has ended,
-- or could not be written to.
abbrev pub Becomes : ConversationValue → Then → Type 0
Becomes v Listens = IsAllSaid v DueNothing
Becomes v Updates = IsAllSaid v DueUpdate
Becomes v Queues = IsAllSaid v DueOther
Becomes v Delays = IsAllSaid v DueOther
Becomes v Waits = v.unsent ≡ [] → ⊥
Becomes v (ThenEnds end) = ((v.unsent ≡ []) × (v.end ≡ Some end)) ⊎ (end ≡ WriteFailed)
