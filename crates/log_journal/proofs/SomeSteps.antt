-- A replica that took some of its events.
use Rattle.std.proofs.Common.{◌≡◌, ◌⊎◌, inl, inr, ℕ, List, [], ◌∷◌, Result, Ok, Err, refl, sym, ap, subst}
use Rattle.std.specs.Prelude.{OnErr}
use Rattle.std.specs.declared.alloc.AllocError.{AllocError}
use Rattle.ldap_op.specs.Values.{OpValue}
use Rattle.vr_state.specs.State.{State}
use Rattle.vr_state.specs.Step.{step}
use Rattle.vr_state.specs.Outcome.{Outcome}
use Rattle.vr_state.specs.declared.event.Event.{Event}
use Rattle.vr_state.specs.declared.message.Outputs.{Outputs}
use Rattle.log_journal.specs.Taken.{Takes, TakesAll, MakesSome}

-- a fact at an error, whatever that is
pub on_err : {T E : Type 0} {P : Type 0} (r : Result T E) → P → OnErr r P
on_err (Ok x) h = tt
on_err (Err e) h = h

-- An event makes its step, or is left out.
pub one_or_none : (n i : ℕ) (r t : State OpValue) (e : Event OpValue) (x : Result (Outputs OpValue) AllocError)
    (old new : List (List ℕ)) → Takes n i r e x t old new → (t ≡ r) ⊎ (t ≡ (step n i r e).state)
one_or_none n i r t e (Ok out) old new h = inr (ap (λ (o : Outcome OpValue). o.state) h.step)
one_or_none n i r t e (Err x) old new h = inl h.0

-- None of the events has come yet.
pub none_yet : (n i : ℕ) (r : State OpValue) (es : List (Event OpValue)) → MakesSome n i r es r
none_yet n i r [] = refl
none_yet n i r (e ∷ es) = inl refl

-- The first event has made its step, and no other has come.
pub only_first : (n i : ℕ) (r s : State OpValue) (e : Event OpValue) (es : List (Event OpValue)) → (s ≡ r)
    ⊎ (s ≡ (step n i r e).state) → MakesSome n i r (e ∷ es) s
only_first n i r s e es h = inr (s, h, none_yet n i s es)

-- Events that were taken, or left out, are some first of themselves.
pub all_of_them : (n i : ℕ) (r s : State OpValue) (es : List (Event OpValue))
    (xs : List (Result (Outputs OpValue) AllocError)) (old new : List (List ℕ)) → TakesAll n i r es xs s old new →
    MakesSome n i r es s
all_of_them n i r s [] [] old new h = h.0
all_of_them n i r s [] (x ∷ xs) old new h = absurd h
all_of_them n i r s (e ∷ es) [] old new h = absurd h
all_of_them n i r s (e ∷ es) (x ∷ xs) old new (t, mid, one, more) =
    inr (t, one_or_none n i r t e x old mid one, all_of_them n i t s es xs mid new more)
