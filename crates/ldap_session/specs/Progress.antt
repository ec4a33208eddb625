-- How a session goes on.
use Rattle.std.specs.Prelude.{◌≡◌, ◌⊎◌, ℕ, List, [], ◌∷◌, map, Option, None, Some, Result, Ok, Err}
use Rattle.session_handler.specs.ldap_msg.Messages.{MessageValue}
use Rattle.session_handler.specs.ldap_msg.Written.{message_bytes}
use Rattle.ldap_framer.specs.Framed.{HasSeen}
use Rattle.session_handler.specs.directory_api.Talk.{Exchange, Along}
use Rattle.session_handler.specs.request_checks.Messages.{HasTooLong}
use Rattle.session_handler.specs.Responses.{notice}
use Rattle.session_handler.specs.Session.{ConfigValue, Reaction, at_first}
use Rattle.session_handler.specs.Turns.{Turn, Session}
use Rattle.session_handler.specs.declared.answered.Answered.{Answered}
use Rattle.session_handler.specs.declared.answered.Next.{Next}
use Rattle.session_handler.specs.declared.answered.Next.TheVariants.{GoesOn, Disconnected}
use Rattle.session_handler.specs.request_checks.declared.fault.AnswerError.{AnswerError}
use Rattle.session_handler.specs.request_checks.declared.fault.AnswerError.TheVariants.{TooLong}
use Rattle.ldap_session.specs.View.{SessionValue}
use Rattle.ldap_session.specs.declared.end.SessionEnd.{SessionEnd}
use Rattle.ldap_session.specs.declared.end.SessionEnd.TheVariants.{EndOfInput, Truncated}

-- The next message is taken off the stream, and the session makes its turn at it along a talk with the directory.
pub record TakesNext {D T : Type 0} (allows : D → Exchange T → D → Type 0) (c : ConfigValue) (s t : SessionValue)
    (d e : D) (a : Reaction) : Type 0 where
  pub taken : MessageValue
  pub talk : List (Exchange T)
  pub ready : s.framed.ready ≡ taken ∷ t.framed.ready
  pub rest : t.framed.rest ≡ s.framed.rest
  pub fault : t.framed.fault ≡ s.framed.fault
  pub turn : Turn c s.state taken talk a
  pub along : Along allows d talk e

-- the octets of these responses, and whether the session goes on
pub record IsWritten (given : Answered) (responses : List MessageValue) (next : Next) : Type 0 where
  pub octets : given.responses ≡ map message_bytes responses
  pub goes : given.next ≡ next

-- a message is answered, and the session has the state after it
pub record AnswersNext {D T : Type 0} (allows : D → Exchange T → D → Type 0) (c : ConfigValue) (s t : SessionValue)
    (d e : D) (given : Answered) : Type 0 where
  pub reaction : Reaction
  pub takes : TakesNext allows c s t d e reaction
  pub state : t.state ≡ reaction.state
  pub written : IsWritten given reaction.responses reaction.next

-- a message can't be answered: a response is too long, or there is no memory
pub record FailsNext {D T : Type 0} (allows : D → Exchange T → D → Type 0) (c : ConfigValue) (s t : SessionValue)
    (d e : D) (error : AnswerError) : Type 0 where
  pub reaction : Reaction
  pub takes : TakesNext allows c s t d e reaction
  pub too_long : error ≡ TooLong → HasTooLong reaction.responses

-- nothing is left to be answered, and nothing has changed
pub record IsIdle {D : Type 0} (s t : SessionValue) (d e : D) : Type 0 where
  pub none : s.framed.ready ≡ []
  pub same : t ≡ s
  pub untouched : e ≡ d

-- What an attempt to answer the next message comes to: it is awaited; it is answered, or what stands in its place is no
-- message and is answered by the notice; or there is an error.
abbrev pub Answers : {D T : Type 0} → (D → Exchange T → D → Type 0) → ConfigValue → SessionValue → SessionValue → D →
    D → Result (Option Answered) AnswerError → Type 0
Answers allows c s t d e (Ok None) = IsIdle s t d e × (s.framed.fault ≡ None)
Answers allows c s t d e (Ok (Some given)) =
    AnswersNext allows c s t d e given ⊎ (IsIdle s t d e × (s.framed.fault ≡ None → ⊥) × IsWritten given (notice ∷ [])
    Disconnected)
Answers allows c s t d e (Err error) =
    FailsNext allows c s t d e error ⊎ (IsIdle s t d e × (s.framed.fault ≡ None → ⊥) × (error ≡ TooLong → ⊥))

-- A session so far: of the octets read, these messages are answered, along a talk with the directory, and these octets,
-- in which the responses are shown, are written.
pub record Reached {D T : Type 0} (shown : List MessageValue → List ℕ) (allows : D → Exchange T → D → Type 0)
    (c : ConfigValue) (d e : D) (s : SessionValue) (read written : List ℕ) : Type 0 where
  pub handed : List MessageValue
  pub talk : List (Exchange T)
  pub responses : List MessageValue
  pub seen : HasSeen s.framed read handed
  pub session : Session c at_first handed talk s.state responses GoesOn
  pub along : Along allows d talk e
  pub written_are : written ≡ shown responses

-- how a session ends where its stream does: between two messages, or inside one
abbrev pub IsAtLast : SessionValue → SessionEnd → Type 0
IsAtLast s end =
    (s.framed.fault ≡ None) → ((end ≡ EndOfInput) × (s.framed.rest ≡ []))
    ⊎ ((end ≡ Truncated) × (s.framed.rest ≡ [] → ⊥))
