-- What a message was taken for.
use Rattle.std.specs.Prelude.{◌≡◌, ◌⊎◌, List, map, Result, IfOk, OnOk, OnErr, IsErrOf}
use Rattle.request_checks.specs.ldap_msg.Messages.{MessageValue}
use Rattle.request_checks.specs.ldap_msg.Written.{message_bytes}
use Rattle.directory_api.specs.Talk.{Exchange, Along}
use Rattle.request_checks.specs.Messages.{HasTooLong}
use Rattle.session_handler.specs.Session.{Reaction}
use Rattle.request_checks.specs.declared.identity.Identity.TheVariants.{Anonymous}
use Rattle.session_handler.specs.declared.state.State.{State}
use Rattle.session_handler.specs.declared.answered.Answered.{Answered}
use Rattle.session_handler.specs.declared.answered.Next.{Next}
use Rattle.request_checks.specs.declared.fault.AnswerError.{AnswerError}
use Rattle.request_checks.specs.declared.fault.AnswerError.TheVariants.{TooLong}

-- These responses are answered, each in its one written form, and the session goes on or ends as said. TooLong only
-- where one of them is too long; want of memory is the only other error.
pub record AreSaid (responses : List MessageValue) (next : Next) (result : Result Answered AnswerError) : Type 0 where
  pub written : IfOk result (λ a. a.responses ≡ map message_bytes responses)
  pub next_is : IfOk result (λ a. a.next ≡ next)
  pub too_long : IsErrOf result TooLong → HasTooLong responses

-- A reaction is done: its responses are answered, and its state is the one after it. An error leaves its state too, or
-- at the worst the same with nobody bound.
pub record IsDone (a : Reaction) (after : State) (result : Result Answered AnswerError) : Type 0 where
  pub state : OnOk result (after ≡ a.state)
  pub left : OnErr result ((after ≡ a.state) ⊎ (after ≡ record a.state { identity = Anonymous }))
  pub said : AreSaid a.responses a.next result

-- A directory went along some talk, from d to e, and what comes of that talk, as these turns say, is done: whatever the
-- result is.
pub record HasTaken {D T : Type 0} (allows : D → Exchange T → D → Type 0) (d e : D) (turns : List (Exchange T) →
    Reaction → Type 0)
    (after : State) (result : Result Answered AnswerError) : Type 0 where
  pub talk : List (Exchange T)
  pub reaction : Reaction
  pub turn : turns talk reaction
  pub along : Along allows d talk e
  pub done : IsDone reaction after result
