-- What a lab keeps is what its replicas have committed.
use Rattle.std.proofs.Common.{◌≡◌, ℕ, nat_lt, Bool, true, false, cond, List, [], ◌∷◌, ◌++◌, length, take, drop, Option, Some, None, refl, ap, subst}
use Rattle.std.proofs.Math.Seq.{drop-append_seam}
use Rattle.vr_state.specs.Lists.{IsPrefix}
use Rattle.vr_state.specs.State.{State, first}
use Rattle.vr_state.specs.Words.{LogEntry}
use Rattle.vr_world.specs.Law.{IsSize}
use Rattle.vr_world.specs.World.{World, happens, start, after}
use Rattle.vr_world.specs.declared.events.WorldEvent.{WorldEvent}
use Rattle.vr_world.proofs.Laws.{steps_keep, run-append}
use Rattle.state_machine.specs.dir_store.ldap_op.Values.{OpValue}
use Rattle.dir_lab.specs.private.Executions.{caught_up, all_caught_up}
use Rattle.dir_lab.specs.Schedule.{executed, executions}

-- a list goes on to one that it begins
go_on : {A : Type 0} (done all : List A) → IsPrefix done all → done ++ drop (length done) all ≡ all
go_on {A} done all p = subst (λ (l : List A). done ++ drop (length done) l ≡ l) p.is
    (ap (λ l. done ++ l) (drop-append_seam done p.rest))

-- the world after one more event
pub one_more : (n : ℕ) (es : List (WorldEvent OpValue)) (e : WorldEvent OpValue) → after n (es ++ e ∷ []) ≡
    happens n (after n es) e
one_more n es e = run-append n es (e ∷ []) (start n)

-- one replica catches up
one_caught_up : (n : ℕ) → IsSize n → (es : List (WorldEvent OpValue)) (e : WorldEvent OpValue) (i : ℕ)
    (old new : Option (State OpValue))
    → (after n es).replicas i ≡ old → (after n (es ++ e ∷ [])).replicas i ≡ new → caught_up (executed old) new ≡
    executed new
one_caught_up n size es e i old None was is = refl
one_caught_up n size es e i None (Some s) was is = refl
one_caught_up n size es e i (Some r) (Some s) was is = go_on (take r.commit_number r.log) (take s.commit_number s.log)
    (steps_keep n size es e i r s was is)

-- An event leads from what is committed to what is committed.
pub kept_on : (n : ℕ) → IsSize n → (es : List (WorldEvent OpValue)) (e : WorldEvent OpValue) →
    all_caught_up (executions (after n es)) (happens n (after n es) e) ≡ executions (happens n (after n es) e)
kept_on n size es e = λ t. λ i. each i t
  where
    each : (i : ℕ) → all_caught_up (executions (after n es)) (happens n (after n es) e) i ≡
        executions (happens n (after n es) e) i
    each i = subst (λ (w : World OpValue). all_caught_up (executions (after n es)) w i ≡ executions w i)
        (one_more n es e)
        (one_caught_up n size es e i ((after n es).replicas i) ((after n (es ++ e ∷ [])).replicas i) refl refl)

-- Nothing is committed at the start.
pub kept_first : (n : ℕ) → ◌≡◌ {A = ℕ → List (LogEntry OpValue)} (λ i. []) (executions (start n))
kept_first n = λ t. λ i. each (nat_lt i n) t
  where
    each : (b : Bool) → [] ≡ executed (cond b (Some (first n)) None)
    each true = refl
    each false = refl
