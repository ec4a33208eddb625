-- Conversations: what contracts that aren't public say of it.
-- What public contracts say is in specs/Conversing.
use Rattle.std.specs.Prelude.{◌≡◌, ℕ, List, ◌++◌, None}
use Rattle.session_handler.specs.declared.answered.Next.{Next}
use Rattle.session_handler.specs.declared.answered.Next.TheVariants.{GoesOn}
use Rattle.ldap_session.specs.View.{ConversationValue}
use Rattle.ldap_session.specs.declared.due.Step.{Step}
use Rattle.ldap_session.specs.declared.due.Step.TheVariants.{Awaits, Answered, Ends}
use Rattle.ldap_session.specs.Conversing.{EndsBy}

-- octets are kept behind what is unsent, and the conversation goes on or ends
abbrev pub KeepsBy : ConversationValue → ConversationValue → List ℕ → Next → Step → Type 0
KeepsBy v w octets next Awaits = ⊥
KeepsBy v w octets next Answered = (next ≡ GoesOn) × (w.unsent ≡ v.unsent ++ octets) × (w.end ≡ None)
KeepsBy v w octets next (Ends end) = EndsBy v w octets next end

-- a step that leaves the session as it was, with its output and what is next kept as KeepsBy says
pub record Keeps (v w : ConversationValue) (octets : List ℕ) (next : Next) (step : Step) : Type 0 where
  pub session : w.session ≡ v.session
  pub keeps : KeepsBy v w octets next step
