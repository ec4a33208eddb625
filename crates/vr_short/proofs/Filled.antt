-- A message that was shortened and filled.
use Rattle.std.proofs.Common.{◌≡◌, ℕ, List, ◌++◌, take, drop, refl, ap, ◌∙◌, take-append-drop}
use Rattle.vr_state.specs.Words.{LogEntry}
use Rattle.vr_state.specs.declared.message.PeerMessage.{PeerMessage}
use Rattle.vr_state.specs.declared.message.PeerMessage.TheVariants.{Prepare, PrepareOk, Commit, StartViewChange, DoViewChange, StartView, GetState, NewState, Recovery, RecoveryResponse}
use Rattle.vr_world.specs.Beginnings.{log_in}
use Rattle.vr_short.specs.Short.{filled, shortened}

-- the records in front, and those behind
whole : {A : Type 0} (x : ℕ) (own l : List A) → take x own ≡ take x l → take x own ++ drop x l ≡ l
whole x own l e = ap (λ t. t ++ drop x l) e ∙ take-append-drop x l

-- the message
pub refilled : {P : Type 0} (x : ℕ) (own : List (LogEntry P)) (m : PeerMessage P) → take x own ≡ take x (log_in m) →
    filled x own (shortened x m) ≡ m
refilled x own (DoViewChange v c) e = ap (λ l. DoViewChange v (record c { log = l })) (whole x own c.log e)
refilled x own (StartView v held) e = ap (λ l. StartView v (record held { log = l })) (whole x own held.log e)
refilled x own (Prepare v f p k) e = refl
refilled x own (PrepareOk v p) e = refl
refilled x own (Commit v k) e = refl
refilled x own (StartViewChange v) e = refl
refilled x own (GetState v k) e = refl
refilled x own (NewState v k tail) e = refl
refilled x own (Recovery k) e = refl
refilled x own (RecoveryResponse k a) e = refl
