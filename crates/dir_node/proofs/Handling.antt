-- What a batch of events makes of a replica.
use Rattle.std.proofs.Common.{◌≡◌, ℕ, List, [], ◌∷◌, Result, Ok, Err, IfOk, IfErr, refl, sym, subst}
use Rattle.std.specs.declared.alloc.AllocError.{AllocError}
use Rattle.state_machine.specs.dir_store.ldap_op.Values.{OpValue}
use Rattle.log_journal.specs.Taken.{TakesAll}
use Rattle.vr_state.specs.State.{State}
use Rattle.vr_state.specs.Step.{step}
use Rattle.vr_state.specs.declared.event.Event.{Event}
use Rattle.vr_state.specs.declared.message.Outputs.{Outputs}
use Rattle.dir_node.specs.Handling.{MakesSteps}
use Rattle.dir_node.specs.NodeState.{given}

-- Events that are taken and noted make their steps.
pub steps_of : (n i : ℕ) (r s : State OpValue) (es : List (Event OpValue))
    (xs : List (Result (Outputs OpValue) AllocError)) (old new : List (List ℕ)) → TakesAll n i r es xs s old new →
    MakesSteps n i r es xs s
steps_of n i r s [] [] old new h = h.0
steps_of n i r s [] (x ∷ xs) old new h = absurd h
steps_of n i r s (e ∷ es) [] old new h = absurd h
steps_of n i r s (e ∷ es) (Ok out ∷ xs) old new (t, mid, one, more) = (t, one.step, steps_of n i t s es xs mid new more)
steps_of n i r s (e ∷ es) (Err x ∷ xs) old new (t, mid, none, more) = subst (λ (q : State OpValue). MakesSteps n i q
    es xs s) none.0 (steps_of n i t s es xs mid new more)

-- what one event gave
pub record GivesOne (n i : ℕ) (r : State OpValue) (e : Event OpValue)
    (xs : List (Result (Outputs OpValue) AllocError)) (s : State OpValue) : Type 0 where
  pub given_one : Result (Outputs OpValue) AllocError
  pub only : xs ≡ given_one ∷ []
  pub steps : MakesSteps n i r (e ∷ []) (given_one ∷ []) s

pub one_given : (n i : ℕ) (r s : State OpValue) (e : Event OpValue) (xs : List (Result (Outputs OpValue) AllocError))
    → MakesSteps n i r (e ∷ []) xs s → GivesOne n i r e xs s
one_given n i r s e [] h = absurd h
one_given n i r s e (Ok out ∷ []) h = record { given_one = Ok out; only = refl; steps = h }
one_given n i r s e (Err x ∷ []) h = record { given_one = Err x; only = refl; steps = h }
one_given n i r s e (Ok out ∷ (y ∷ ys)) (t, step, more) = absurd more
one_given n i r s e (Err x ∷ (y ∷ ys)) more = absurd more

-- what an event gave, as its step says it
pub record GivesStep (n i : ℕ) (r : State OpValue) (e : Event OpValue) (x : Result (Outputs OpValue) AllocError)
    (t : State OpValue) : Type 0 where
  pub ok : IfOk x (λ out. given t out ≡ step n i r e)
  pub err : IfErr x (λ _. t ≡ r)

-- one event more, at the front
pub one_more : (n i : ℕ) (r t s : State OpValue) (e : Event OpValue) (es : List (Event OpValue))
    (x : Result (Outputs OpValue) AllocError) (xs : List (Result (Outputs OpValue) AllocError))
    → GivesStep n i r e x t → MakesSteps n i t es xs s → MakesSteps n i r (e ∷ es) (x ∷ xs) s
one_more n i r t s e es (Ok out) xs g h = (t, g.ok, h)
one_more n i r t s e es (Err y) xs g h = subst (λ (q : State OpValue). MakesSteps n i q es xs s) g.err h

-- where the only event was taken, it made its step; where it was left out, nothing changed
pub only_step : (n i : ℕ) (r s : State OpValue) (e : Event OpValue) (x : Result (Outputs OpValue) AllocError) →
    MakesSteps n i r (e ∷ []) (x ∷ []) s → GivesStep n i r e x s
only_step n i r s e (Ok out) (t, is, done) = record {
  ok = subst (λ (q : State OpValue). given q out ≡ step n i r e)
      (sym done) is;
  err = tt;
}
only_step n i r s e (Err y) done = record { ok = tt; err = done }
