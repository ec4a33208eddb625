-- A step keeps the records that its replica has committed. Nothing else is proved here.
use Rattle.std.proofs.Common.{◌≡◌, ℕ, ◌≤◌, ◌==◌, nat_lt, List, [], ◌∷◌, length, Option, Some, None, arith, refl, ap, subst, eqb-true, le_of_eq, length-take}
use Rattle.vr_state.proofs.Laws.{prefix_trans, prefix_shorter, by_test, commits_rise}
use Rattle.vr_state.specs.Outcome.{Outcome}
use Rattle.vr_state.specs.State.{State}
use Rattle.vr_state.specs.Step.{step}
use Rattle.vr_state.specs.declared.message.Change.{Change}
use Rattle.vr_state.specs.Words.{LogEntry}
use Rattle.vr_state.specs.declared.words.Status.{Status}
use Rattle.vr_world.proofs.Invariant.{StateFact}
use Rattle.vr_world.proofs.NormalEvents.{up_of}
use Rattle.vr_world.proofs.Runs.{happens_holds}
use Rattle.vr_world.proofs.Invariant.{Holds, all_of}
use Rattle.vr_world.proofs.Resumptions.{there_up}
use Rattle.vr_world.proofs.Theorems.{after_holds, committed_stays, replica_agrees, run-append}
use Rattle.vr_world.specs.Law.{CommitsAreHeld, StepsKeep}
use Rattle.vr_world.specs.World.{has_used, World, Message, WorldEvent, made, stepped, delivered, recovered, crashed, resumed, sent_as, happens, start, after}
use Rattle.vr_state.specs.declared.event.Event.TheVariants as event
use Rattle.vr_state.specs.declared.words.Status.TheVariants.{Normal, ViewChange, Recovering}
use Rattle.vr_world.specs.declared.events.WorldEvent.TheVariants.{Request, Deliver, Suspect, Beat, Crash, Recover, Resume}

-- a replica has what it has committed
within_of : {P : Type 0} (n : ℕ) (past : ℕ → List (LogEntry P)) (w : World P) → Holds n past w →
    (i : ℕ) (r : State P) → w.replicas i ≡ Some r → r.commit_number ≤ length r.log
within_of {P} n past w inv i r up = go r.status (up_of n (all_of n w) w.stored
    (record { used = w.nonces; past = past }) w.messages inv i r (there_up n w i r up)).state
  where
    go : (s : Status) → StateFact n w.stored (record { used = w.nonces; past = past }) w.messages i r s →
        r.commit_number ≤ length r.log
    go Normal h = h.active.within
    go ViewChange h = h.active.within
    go Recovering h = omega (arith, h.nothing)

-- Each has what it has committed.
pub commits_are_held : {P : Type 0} → CommitsAreHeld P
commits_are_held n size es i r up = within_of n (λ v. []) (after n es) (after_holds n size es) i r up

-- The same of a world.
module _ {P : Type 0} (n i : ℕ) (r s : State P) where
  -- replica i has committed no less
  abbrev Rises : World P → Type 0
  Rises w = w.replicas i ≡ Some s → r.commit_number ≤ s.commit_number

  -- where nothing happened to it
  rises_same : (w : World P) → w.replicas i ≡ Some r → Rises w
  rises_same w e f = let t : r ≡ s = cc (e, f) in le_of_eq (ap (λ x. x.commit_number) t)

  -- where some replica made a step
  rises_made : (w : World P) → w.replicas i ≡ Some r → (k : ℕ) (d : Outcome P) →
      (i ≡ k → r.commit_number ≤ d.state.commit_number) → Rises (made k d w)
  rises_made w e k d h = by_test (λ (x : Option (State P)). x ≡ Some s → r.commit_number ≤ s.commit_number) (i == k)
      (Some d.state) (w.replicas i)
      (λ t f. let u : d.state ≡ s = cc f in subst (λ (x : State P). r.commit_number ≤ x.commit_number) u
      (h (eqb-true i k t))) (λ t f. rises_same w e f)

  -- where it was up
  rises_stepped : (w : World P) → w.replicas i ≡ Some r → (k : ℕ) (act : State P → Outcome P) →
      (i ≡ k → r.commit_number ≤ (act r).state.commit_number) → (o : Option (State P)) → w.replicas k ≡ o →
      Rises (stepped k act o w)
  rises_stepped w e k act h None f = rises_same w e
  rises_stepped w e k act h (Some x) f = rises_made w e k (act x) (λ t. let u : r ≡ x = cc (e, f, ap w.replicas t)
      in subst (λ y. r.commit_number ≤ (act y).state.commit_number) u (h t))

  -- at a delivery
  rises_delivered : (w : World P) → w.replicas i ≡ Some r → (o : Option (Message P)) → Rises (delivered n o w)
  rises_delivered w e None = rises_same w e
  rises_delivered w e (Some m) = rises_stepped w e m.to (λ x. step n m.to x (event.Message m.from m.body))
      (λ t. commits_rise n m.to r (event.Message m.from m.body)) (w.replicas m.to) refl

  -- at a recovery
  rises_recovered : (w : World P) → w.replicas i ≡ Some r → (k x : ℕ) (o : Option (State P)) → w.replicas k ≡ o →
      Rises (recovered n k x o w)
  rises_recovered w e k x (Some y) f = rises_same w e
  rises_recovered w e k x None f = by_test Rises (has_used x (w.nonces k)) _ _ (λ t. rises_same w e)
      (λ t. by_test (λ (y : Option (State P)). y ≡ Some s → r.commit_number ≤ s.commit_number) (i == k) _ (w.replicas i)
      (λ u. absurd (cc (e, f, ap w.replicas (eqb-true i k u)))) (λ u. rises_same w e))

  -- where one crashed
  rises_crashed : (w : World P) → w.replicas i ≡ Some r → (k : ℕ) (o : Option (State P)) → Rises (crashed k o w)
  rises_crashed w e k None = rises_same w e
  rises_crashed w e k (Some x) = by_test (λ (y : Option (State P)). y ≡ Some s → r.commit_number ≤ s.commit_number)
      (i == k) None (w.replicas i) (λ u f. absurd (cc f)) (λ u. rises_same w e)

  -- where one goes on
  rises_resumed : (w : World P) → w.replicas i ≡ Some r → (k x : ℕ) (o : Option (State P)) (c : Option (Change P)) →
      w.replicas k ≡ o → Rises (resumed n k x o c w)
  rises_resumed w e k x (Some y) c f = rises_same w e
  rises_resumed w e k x None None f = rises_same w e
  rises_resumed w e k x None (Some c) f = by_test (λ (y : Option (State P)). y ≡ Some s →
      r.commit_number ≤ s.commit_number) (i == k) _ (w.replicas i)
      (λ u. absurd (cc (e, f, ap w.replicas (eqb-true i k u)))) (λ u. rises_same w e)

  -- At each event.
  pub rises_happens : (w : World P) → w.replicas i ≡ Some r → (e : WorldEvent P) → Rises (happens n w e)
  rises_happens w up (Request k e) = by_test Rises (nat_lt k n) _ _
      (λ t. rises_stepped w up k (λ x. step n k x (event.Request e)) (λ t. commits_rise n k r (event.Request e))
      (w.replicas k) refl) (λ t. rises_same w up)
  rises_happens w up (Deliver k) = rises_delivered w up (sent_as k w.messages)
  rises_happens w up (Suspect k) = by_test Rises (nat_lt k n) _ _
      (λ t. rises_stepped w up k (λ x. step n k x event.Suspect) (λ t. commits_rise n k r event.Suspect)
      (w.replicas k) refl) (λ t. rises_same w up)
  rises_happens w up (Beat k) = by_test Rises (nat_lt k n) _ _ (λ t. rises_stepped w up k (λ x. step n k x event.Beat)
      (λ t. commits_rise n k r event.Beat) (w.replicas k) refl) (λ t. rises_same w up)
  rises_happens w up (Crash k) = by_test Rises (nat_lt k n) _ _ (λ t. rises_crashed w up k (w.replicas k))
      (λ t. rises_same w up)
  rises_happens w up (Recover k x) = by_test Rises (nat_lt k n) _ _ (λ t. rises_recovered w up k x (w.replicas k)
      refl) (λ t. rises_same w up)
  rises_happens w up (Resume k x) = by_test Rises (nat_lt k n) _ _ (λ t. rises_resumed w up k x (w.replicas k)
      (w.kept k) refl) (λ t. rises_same w up)

-- A step keeps what its replica has committed.
pub steps_keep : {P : Type 0} → StepsKeep P
steps_keep {P} n size es e i r s up now =
    prefix_shorter (prefix_trans (replica_agrees n size (λ v. []) w inv i r up) (committed_stays n size (λ v. []) w
    inv (e ∷ []))) (replica_agrees n size (λ v. []) (happens n w e) next i s now')
    (omega (
      arith,
      length-take r.commit_number r.log,
      length-take s.commit_number s.log,
      rises_happens n i r s w up e
          now',
      within_of n (λ v. []) (happens n w e) next i s now',
    ))
  where
    w : World P
    w = after n es

    inv : Holds n (λ v. []) w
    inv = after_holds n size es

    next : Holds n (λ v. []) (happens n w e)
    next = happens_holds n size (λ v. []) w inv e

    now' : (happens n w e).replicas i ≡ Some s
    now' = subst (λ (u : World P). u.replicas i ≡ Some s) (run-append n es (e ∷ []) (start n)) now
