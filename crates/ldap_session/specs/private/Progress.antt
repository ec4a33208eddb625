-- How a session goes on: what contracts that aren't public say of it.
-- What public contracts say is in specs/Progress.
use Rattle.std.specs.Prelude.{◌≡◌, [], ◌∷◌, Option, None, Some, Result, Ok, Err}
use Rattle.session_handler.specs.Responses.{notice}
use Rattle.session_handler.specs.declared.answered.Answered.{Answered}
use Rattle.session_handler.specs.declared.answered.Next.TheVariants.{Disconnected}
use Rattle.session_handler.specs.request_checks.declared.fault.AnswerError.{AnswerError}
use Rattle.session_handler.specs.request_checks.declared.fault.AnswerError.TheVariants.{TooLong}
use Rattle.session_handler.specs.ldap_ber.declared.message_fault.MsgFault.{MsgFault}
use Rattle.ldap_session.specs.Progress.{IsWritten}

-- what stands where a message is to begin: nothing yet, or what is no message, which is answered by the notice
abbrev pub IsNoMessage : Option MsgFault → Result (Option Answered) AnswerError → Type 0
IsNoMessage fault (Ok None) = fault ≡ None
IsNoMessage fault (Ok (Some given)) = (fault ≡ None → ⊥) × IsWritten given (notice ∷ []) Disconnected
IsNoMessage fault (Err error) = (fault ≡ None → ⊥) × (error ≡ TooLong → ⊥)
