-- Sessions in the hands of a thread, sitting after sitting. A session and a directory before and after come in; what
-- the thread may do with them before another session has its turn comes out.
use Rattle.std.specs.Prelude.{◌⊎◌, ◌≤◌, ℕ, suc, List, None}
use Rattle.client_link.specs.directory_api.Talk.{Exchange}
use Rattle.client_link.specs.session_handler.Session.{ConfigValue}
use Rattle.client_link.specs.ldap_session.View.{ConversationValue}
use Rattle.client_link.specs.ldap_session.declared.due.Due.TheVariants.{Nothing as DueNothing}
use Rattle.client_link.specs.Served.{config_of}
use Rattle.session_table.specs.Attending.{HearsSome, IsHeardEnd, HasSent, IsAllSaid, Becomes}
use Rattle.session_pool.specs.Answering.{Answers, AnswersSome}
use Rattle.session_table.specs.declared.pooled.Then.{Then}
use Rattle.session_table.specs.declared.pooled.Then.TheVariants.{Ends}

-- One sitting: at most 16 messages are answered, none of which is an update, and a front of what is unsent is sent.
pub record Sitting {D T : Type 0} (allows : D → Exchange T → D → Type 0) (c : ConfigValue) (v w : ConversationValue)
    (d e : D) : Type 0 where
  pub answered : ConversationValue
  pub answers : AnswersSome allows c v answered d e 16
  pub sent : HasSent answered w

-- all is said, no whole message is left over, and then octets are heard
pub record HearsOn (v w : ConversationValue) : Type 0 where
  pub said : IsAllSaid v DueNothing
  pub buffer : List ℕ
  pub heard : HearsSome None None v buffer w

-- So many sittings in a row. A further one follows only where all is said and no whole message is left over, and then
-- octets are heard: a session with messages left over goes to the back of the queue.
pub data InARow {D T : Type 0} (allows : D → Exchange T → D → Type 0) (c : ConfigValue) : ConversationValue →
    ConversationValue → D → D → ℕ → Type 0 where
  sits : {v w : ConversationValue} {d e : D} → Sitting allows c v w d e → InARow allows c v w d e 1
  sits_on : {v w x y : ConversationValue} {d e f : D} {count : ℕ} → InARow allows c v w d e count → HearsOn w x →
      Sitting allows c x y e f →
      InARow allows c v y d f (suc count)

-- at most so many
pub record InARowUpTo {D T : Type 0} (allows : D → Exchange T → D → Type 0) (c : ConfigValue)
    (v w : ConversationValue) (d e : D) (most : ℕ) : Type 0 where
  pub count : ℕ
  pub in_a_row : InARow allows c v w d e count
  pub at_most : count ≤ most

-- a session whose messages are all answered ends where its stream does, or where that can't be read
abbrev pub EndsSilent : ConversationValue → Then → Type 0
EndsSilent v (Ends end) = IsAllSaid v DueNothing × IsHeardEnd v end
EndsSilent v then = ⊥

-- A thread attends to a session: this has at most 256 sittings in a row, and becomes what it is fit for after the last.
pub record Attends {D T : Type 0} (allows : D → Exchange T → D → Type 0) (c : ConfigValue) (v w : ConversationValue)
    (d e : D) (then : Then) : Type 0 where
  pub sittings : InARowUpTo allows c v w d e 256
  pub becomes : Becomes w then ⊎ EndsSilent w then

-- Sessions of some numbers were attended to by one directory, one after the other, and nothing else was asked of it.
pub data HasAttendedSome {D T : Type 0} (allows : D → Exchange T → D → Type 0) (c : ConfigValue) : D → D → Type 0 where
  none : {d : D} → HasAttendedSome allows c d d
  one_more : {d e f : D} {v w : ConversationValue} {then : Then} (session : ℕ) → HasAttendedSome allows c d e →
      Attends allows (config_of c session) v w e f then → HasAttendedSome allows c d f

-- The same of a thread that updates: a message at a time.
pub data HasUpdatedSome {D T : Type 0} (allows : D → Exchange T → D → Type 0) (c : ConfigValue) : D → D → Type 0 where
  none : {d : D} → HasUpdatedSome allows c d d
  one_more : {d e f : D} {v w : ConversationValue} (session : ℕ) → HasUpdatedSome allows c d e →
      Answers allows (config_of c session) v w e f → HasUpdatedSome allows c d f
