-- What is read from replies as one more is shown.
use Rattle.std.proofs.Common.{◌≡◌, ℕ, zero, suc, ◌⊎◌, inl, inr, List, [], ◌∷◌, ◌++◌, Option, Some, None, slice_get, refl, sym, ap, ◌∙◌}
use Rattle.state_machine.specs.dir_store.ldap_op.Values.{OpValue}
use Rattle.vr_world.specs.declared.words.Message.{Message}
use Rattle.dir_machine.specs.Shown.{Stage, message_at, message_shown, stage, stage_after, stage_by}
use Rattle.dir_machine.specs.declared.events.Place.{Place}
use Rattle.dir_machine.specs.declared.replies.MachineReply.{MachineReply}

-- one reply more
stage_more : (i : ℕ) (s : Stage) (xs : List MachineReply) (x : MachineReply) → stage_after i s (xs ++ x ∷ []) ≡
    stage_by i (stage_after i s xs) x
stage_more i s [] x = refl
stage_more i s (y ∷ ys) x = stage_more i (stage_by i s y) ys x

-- Where a replica stands after one reply more.
pub stage_next : (shown : List MachineReply) (x : MachineReply) (i : ℕ) → stage (shown ++ x ∷ []) i ≡
    stage_by i (stage shown i) x
stage_next shown x i = stage_more i _ shown x

-- what is found as one more joins: it was there, or it is that one
pub get_more : {A : Type 0} (xs : List A) (y : A) (k : ℕ) (x : A) → slice_get (xs ++ y ∷ []) k ≡ Some x →
    (slice_get xs k ≡ Some x) ⊎ (x ≡ y)
get_more [] y zero x h = inr (cc)
get_more [] y (suc k) x h = absurd (cc)
get_more (z ∷ xs) y zero x h = inl h
get_more (z ∷ xs) y (suc k) x h = get_more xs y k x h

-- A message at a place was there before, or it is of the reply that joined.
pub message_more : (shown : List MachineReply) (y : MachineReply) (place : Place) (m : Message OpValue) →
    message_at (shown ++ y ∷ []) place ≡ Some m
    → (message_at shown place ≡ Some m) ⊎ (message_shown (Some y) place.part place.send ≡ Some m)
message_more shown y place m = go (slice_get (shown ++ y ∷ []) place.event) refl
  where
    go : (o : Option MachineReply) → slice_get (shown ++ y ∷ []) place.event ≡ o → message_shown o place.part
        place.send ≡ Some m
        → (message_at shown place ≡ Some m) ⊎ (message_shown (Some y) place.part place.send ≡ Some m)
    go None e h = absurd (cc)
    go (Some x) e h = by (get_more shown y place.event x e)
      where
        by : (slice_get shown place.event ≡ Some x) ⊎ (x ≡ y) → (message_at shown place ≡ Some m)
            ⊎ (message_shown (Some y) place.part place.send ≡ Some m)
        by (inl f) = inl (ap (λ (o : Option MachineReply). message_shown o place.part place.send) f ∙ h)
        by (inr f) = inr (ap (λ (z : MachineReply). message_shown (Some z) place.part place.send) (sym f) ∙ h)
