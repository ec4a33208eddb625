-- What a replica is given, one after another, and calls that may fail.
use Rattle.std.proofs.Common.{◌≡◌, ℕ, inl, inr, List, [], ◌∷◌, ◌++◌, Result, Ok, Err, OnOk, refl, sym, ◌∙◌, subst, append_assoc, append-nil}
use Rattle.state_machine.specs.dir_store.ldap_op.Values.{OpValue}
use Rattle.vr_state.specs.declared.event.Event.{Event}
use Rattle.dir_machine.specs.private.Givens.{AreAsked, IsAbsent, IsAsked, IsOneAbsent}
use Rattle.dir_machine.specs.declared.events.Given.{Given}
use Rattle.dir_machine.specs.declared.replies.MachineReply.{MachineReply}

-- what follows of what a call ensures
pub on_ok : {T E : Type 0} (r : Result T E) {P Q : Type 0} → (P → Q) → OnOk r P → OnOk r Q
on_ok (Ok x) f h = f h
on_ok (Err e) f h = tt

-- so many were made events
pub record AskedSoFar (cluster : ℕ) (before : List MachineReply) (i : ℕ) (all left : List Given)
    (es : List (Event OpValue)) :
    Type 0 where
  pub gone : List Given
  pub split : gone ++ left ≡ all
  pub asked : AreAsked cluster before i gone es

module _ (cluster : ℕ) (before : List MachineReply) (i : ℕ) where
  asked_both : (gs : List Given) (g : Given) (es : List (Event OpValue)) (e : Event OpValue) →
      AreAsked cluster before i gs es → IsAsked cluster before i g e → AreAsked cluster before i (gs ++ g ∷ [])
      (es ++ e ∷ [])
  asked_both [] g [] e h one = (one, tt)
  asked_both (f ∷ gs) g (d ∷ es) e h one = (h.0, asked_both gs g es e h.1 one)
  asked_both [] g (d ∷ es) e h one = absurd h
  asked_both (f ∷ gs) g [] e h one = absurd h

  pub none_asked : (all : List Given) → AskedSoFar cluster before i all all []
  none_asked all = record { gone = []; split = refl; asked = tt }

  -- one more
  pub one_asked : (all left : List Given) (g : Given) (es : List (Event OpValue)) (e : Event OpValue) →
      AskedSoFar cluster before i all (g ∷ left) es → IsAsked cluster before i g e →
      AskedSoFar cluster before i all left (es ++ e ∷ [])
  one_asked all left g es e h one = record {
    gone = h.gone ++ g ∷ [];
    split = append_assoc h.gone (g ∷ []) left ∙ h.split;
    asked = asked_both h.gone g es e h.asked one;
  }

  -- all
  pub all_asked : (all : List Given) (es : List (Event OpValue)) → AskedSoFar cluster before i all [] es →
      AreAsked cluster before i all es
  all_asked all es h = subst (λ (l : List Given). AreAsked cluster before i l es) (sym (append-nil h.gone)
      ∙ h.split) h.asked

  absent_behind : (gone : List Given) (g : Given) (left : List Given) → IsAbsent cluster before i g →
      IsOneAbsent cluster before i (gone ++ g ∷ left)
  absent_behind [] g left h = inl h
  absent_behind (f ∷ gone) g left h = inr (absent_behind gone g left h)

  -- one is not there
  pub one_is_absent : (all left : List Given) (g : Given) (es : List (Event OpValue)) →
      AskedSoFar cluster before i all (g ∷ left) es → IsAbsent cluster before i g → IsOneAbsent cluster before i all
  one_is_absent all left g es h one = subst (λ (l : List Given). IsOneAbsent cluster before i l) h.split
      (absent_behind h.gone g left one)
