-- Messages of a session that a directory answers. The conversation before and after come in, with the directory; what was
-- answered comes out.
use Rattle.std.specs.Prelude.{◌≡◌, ◌≤◌, ℕ, suc}
use Rattle.client_link.specs.directory_api.Talk.{Exchange}
use Rattle.client_link.specs.session_handler.Session.{ConfigValue}
use Rattle.client_link.specs.ldap_session.View.{ConversationValue}
use Rattle.client_link.specs.ldap_session.Conversing.{Continues}
use Rattle.client_link.specs.ldap_session.declared.due.Due.TheVariants.{Other as DueOther}
use Rattle.client_link.specs.ldap_session.declared.due.Step.{Step}
use Rattle.session_table.specs.Attending.{due_next}

-- a message was answered by a directory, wherever the conversation stood
pub record Answers {D T : Type 0} (allows : D → Exchange T → D → Type 0) (c : ConfigValue) (v w : ConversationValue)
    (d e : D) : Type 0 where
  pub step : Step
  pub continues : Continues allows c v w d e step

-- the next message, which is no update, was answered by a directory
pub record AnswersNext {D T : Type 0} (allows : D → Exchange T → D → Type 0) (c : ConfigValue)
    (v w : ConversationValue) (d e : D) : Type 0 where
  pub other : due_next v ≡ DueOther
  pub answers : Answers allows c v w d e

-- So many messages were answered by one directory, one after the other, none of which is an update.
pub data AnswersInTurn {D T : Type 0} (allows : D → Exchange T → D → Type 0) (c : ConfigValue) : ConversationValue →
    ConversationValue → D → D → ℕ → Type 0 where
  none : {v : ConversationValue} {d : D} → AnswersInTurn allows c v v d d 0
  one_more : {v w x : ConversationValue} {d e f : D} {count : ℕ} → AnswersInTurn allows c v w d e count →
      AnswersNext allows c w x e f →
      AnswersInTurn allows c v x d f (suc count)

-- at most so many were
pub record AnswersSome {D T : Type 0} (allows : D → Exchange T → D → Type 0) (c : ConfigValue)
    (v w : ConversationValue) (d e : D) (most : ℕ) : Type 0 where
  pub count : ℕ
  pub in_turn : AnswersInTurn allows c v w d e count
  pub at_most : count ≤ most
