use Rattle.std.proofs.Common.{◌≡◌, ⊎_elim, inr, refl}
use Rattle.ldap_session.specs.View.{SessionValue, session_view}
use Rattle.ldap_session.specs.Progress.{IsAtLast}
use Rattle.ldap_session.specs.declared.end.SessionEnd.{SessionEnd}
use Rattle.ldap_session.specs.declared.end.SessionEnd.TheVariants.{EndOfInput, Truncated}
use Rattle.local_directory.proofs.answering.end_of_input.Goals as goal

-- an end that is not between two messages is inside one
inside : (s : SessionValue) (end : SessionEnd) → (end ≡ EndOfInput → ⊥) → IsAtLast s end → IsAtLast s Truncated
inside s end apart at fault = ⊎_elim (λ h. absurd (apart h.0)) (λ h. inr (refl, h.1)) (at fault)

pub returns-in_default-clause-at_last : goal.returns-in_default-clause-at_last
returns-in_default-clause-at_last c = inside (session_view c.args.session.now) c.end_of_input.result
    c.in_default.not-EndOfInput c.end_of_input.ensures
