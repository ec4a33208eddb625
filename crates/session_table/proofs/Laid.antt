-- Where a session waits that was answered. What was found out about its stream comes in; that it may wait there comes out.
use Rattle.std.proofs.Common.{◌≡◌, ◌⊎◌, inl, inr, sym, subst}
use Rattle.ldap_session.specs.View.{ConversationValue}
use Rattle.ldap_session.specs.declared.due.Due.TheVariants.{Nothing as DueNothing}
use Rattle.session_turns.specs.declared.spot.Queue.{Queue}
use Rattle.session_turns.specs.declared.spot.Queue.TheVariants.{Silent, Inside}
use Rattle.session_table.specs.Attending.{IsAllSaid}
use Rattle.session_table.specs.Laying.{Fits}
use Rattle.session_table.specs.Waiting.{WaitsFor}
use Rattle.session_table.specs.declared.laying.Destination.TheVariants.{Parks}

pub fits_listening : (v : ConversationValue) (queue : Queue) → IsAllSaid v DueNothing → WaitsFor v.session queue →
    (queue ≡ Silent) ⊎ (queue ≡ Inside) → Fits v (Parks queue)
fits_listening v queue said waits (inl e) = subst (λ (q : Queue). Fits v (Parks q)) (sym e)
    (said, subst (λ (q : Queue). WaitsFor v.session q) e waits)
fits_listening v queue said waits (inr e) = subst (λ (q : Queue). Fits v (Parks q)) (sym e)
    (said, subst (λ (q : Queue). WaitsFor v.session q) e waits)
