-- Each committed record was asked for: what a PREPARE carries is a request's record or one that was listed before.
use Rattle.std.proofs.Common.{◌≡◌, ℕ, zero, suc, ◌+◌, ◌<◌, ◌≤◌, ◌==◌, nat_lt, Bool, true, false, cond, ◌&&◌, ◌⊎◌, inl, inr, List, [], ◌∷◌, ◌++◌, length, take, Option, Some, None, refl, sym, subst, arith, eqb-true}
use Rattle.std.proofs.lemmas.Bool.{cases_lt, ltb-true}
use Rattle.vr_state.proofs.Laws.{by_test, prefix_take}
use Rattle.vr_state.specs.Lists.{In, IsPrefix}
use Rattle.vr_state.specs.Outcome.{others}
use Rattle.vr_state.specs.State.{State, is_normal, is_changing}
use Rattle.vr_state.specs.Step.{step}
use Rattle.vr_state.specs.Words.{LogEntry}
use Rattle.vr_state.specs.declared.event.Event.{Event}
use Rattle.vr_state.specs.declared.event.Event.TheVariants as event
use Rattle.vr_state.specs.declared.message.Change.{Change}
use Rattle.vr_state.specs.declared.message.PeerMessage.{PeerMessage}
use Rattle.vr_state.specs.declared.message.PeerMessage.TheVariants.{Prepare, PrepareOk, Commit, StartViewChange, DoViewChange, StartView, GetState, NewState, Recovery, RecoveryResponse}
use Rattle.vr_state.specs.declared.message.Send.{Send}
use Rattle.vr_state.specs.declared.words.Status.{Status}
use Rattle.vr_state.specs.declared.words.Status.TheVariants.{Normal, ViewChange, Recovering}
use Rattle.vr_world.proofs.Invariant.{Given, Holds, Sent, Sound, StateFact, Started, all_of}
use Rattle.vr_world.proofs.Listed.{grown, listed}
use Rattle.vr_world.proofs.NormalEvents.{up_of}
use Rattle.vr_world.proofs.Promises.{committed_is_longest}
use Rattle.vr_world.proofs.Resumptions.{there_up}
use Rattle.vr_world.proofs.Rising.{in_front, in_snoc}
use Rattle.vr_world.proofs.Runs.{happens_holds}
use Rattle.vr_world.proofs.StepSends.{Each, Enters, Why, same_each, step_right}
use Rattle.vr_world.proofs.Theorems.{after_holds, start_holds}
use Rattle.vr_world.proofs.ViewList.{view_list_is}
use Rattle.vr_world.specs.Committed.{IsChosen, committed, start_log, started_with, view_list}
use Rattle.vr_world.specs.Law.{IsSize, WasAsked, CommittedWasAsked}
use Rattle.vr_world.specs.World.{has_used, World, Message, WorldEvent, posted, stepped, delivered, recovered, crashed, resumed, sent_as, happens, start, run, after}
use Rattle.vr_world.specs.declared.events.WorldEvent.TheVariants.{Request, Deliver, Suspect, Beat, Crash, Recover, Resume}

-- what is in a beginning is in the whole
in_prefix : {A : Type 0} (x : A) (xs ys : List A) → IsPrefix xs ys → In x xs → In x ys
in_prefix x xs ys p h = subst (In x) p.is (in_front x xs p.rest h)

module _ {P : Type 0} (A : LogEntry P → Type 0) where
  -- a PREPARE carries a record that was asked for, and no STARTVIEW is of view 0
  abbrev Fine : PeerMessage P → Type 0
  Fine (Prepare v e p x) = A e
  Fine (StartView v held) = 0 < v
  Fine _ = Unit {0}

  -- all these messages do
  abbrev AllFine : List (Message P) → Type 0
  AllFine ms = (m : Message P) → Sent m ms → Fine m.body

  -- a record of a list is of its STARTVIEW, or was asked for
  in_list : (v : ℕ) (ms : List (Message P)) → AllFine ms → (x : LogEntry P) → In x (listed v ms) → In x (start_log v ms)
      ⊎ A x
  in_list v [] f x h = absurd h
  in_list v (m ∷ ms) f x h = go m.body (f m (inl refl)) (in_list v ms (λ k s. f k (inr s)) x) h
    where
      adds : (e : LogEntry P) → A e → (In x (listed v ms) → In x (start_log v ms) ⊎ A x) → In x (listed v ms)
          ⊎ (x ≡ e) → In x (start_log v ms) ⊎ A x
      adds e a ih (inl s) = ih s
      adds e a ih (inr q) = inr (subst A (sym q) a)

      begins : (l : List (LogEntry P)) (b : Bool) → (In x (listed v ms) → In x (start_log v ms) ⊎ A x) →
          In x (cond b l (listed v ms)) → In x (cond b l (start_log v ms)) ⊎ A x
      begins l true ih k = inl k
      begins l false ih k = ih k

      go : (b : PeerMessage P) → Fine b → (In x (listed v ms) → In x (start_log v ms) ⊎ A x) →
          In x (grown v b (listed v ms)) → In x (started_with v b (start_log v ms)) ⊎ A x
      go (Prepare u e p y) a ih k = by_test (λ l. In x l → In x (start_log v ms) ⊎ A x) (u == v
          && p == length (listed v ms) + 1) (listed v ms ++ e ∷ []) (listed v ms)
          (λ t s. adds e a ih (in_snoc x e (listed v ms) s)) (λ t s. ih s) k
      go (StartView u held) a ih k = begins held.log (u == v) ih k
      go (PrepareOk u q) a ih k = ih k
      go (Commit u y) a ih k = ih k
      go (StartViewChange u) a ih k = ih k
      go (DoViewChange u c) a ih k = ih k
      go (GetState u y) a ih k = ih k
      go (NewState u y tail) a ih k = ih k
      go (Recovery y) a ih k = ih k
      go (RecoveryResponse y a') a ih k = ih k

  -- view 0 begins with nothing
  no_start : (v : ℕ) → v ≤ 0 → (ms : List (Message P)) → AllFine ms → (x : LogEntry P) → In x (start_log v ms) → ⊥
  no_start v low [] f x h = h
  no_start v low (m ∷ ms) f x h = go m.body (f m (inl refl)) (no_start v low ms (λ k s. f k (inr s)) x) h
    where
      go : (b : PeerMessage P) → Fine b → (In x (start_log v ms) → ⊥) → In x (started_with v b (start_log v ms)) → ⊥
      go (StartView u held) a ih k = by_test (λ l. In x l → ⊥) (u == v) held.log (start_log v ms)
          (λ t s. omega (arith, a, low, eqb-true u v t)) (λ t s. ih s) k
      go (Prepare u e p y) a ih k = ih k
      go (PrepareOk u q) a ih k = ih k
      go (Commit u y) a ih k = ih k
      go (StartViewChange u) a ih k = ih k
      go (DoViewChange u c) a ih k = ih k
      go (GetState u y) a ih k = ih k
      go (NewState u y tail) a ih k = ih k
      go (Recovery y) a ih k = ih k
      go (RecoveryResponse y a') a ih k = ih k

  module _ (n : ℕ) (stored : ℕ → ℕ) (given : Given P) (ms : List (Message P)) (sound : Sound n stored given ms)
      (fine : AllFine ms) where
    -- the records of a view below this one were asked for
    asked_below : (bound v : ℕ) → v < bound → (x : LogEntry P) → In x (listed v ms) → A x
    asked_below zero v lt x h = absurd (omega (arith, lt))
    asked_below (suc k) v lt x h = go (λ u b s. asked_below k u b x s) (in_list v ms fine x h)
      where
        began : ((u : ℕ) → u < k → In x (listed u ms) → A x) → In x (start_log v ms) → Started v ms
            ⊎ (listed v ms ≡ []) → (0 < v) ⊎ (v ≤ 0) → A x
        began ih s (inr e) c = absurd (subst (In x) e h)
        began ih s (inl b) (inr low) = absurd (no_start v low ms fine x s)
        began ih s (inl b) (inl pos) =
            let j = sound.starts v b pos in
            ih j.view_number (omega (arith, j.before, lt))
            (in_prefix x (start_log v ms) (listed j.view_number ms) j.log.within s)

        go : ((u : ℕ) → u < k → In x (listed u ms) → A x) → In x (start_log v ms) ⊎ A x → A x
        go ih (inr a) = a
        go ih (inl s) = began ih s (sound.lists v) (cases_lt 0 v)

    -- The records of each view were asked for.
    asked_in : (v : ℕ) (x : LogEntry P) → In x (listed v ms) → A x
    asked_in v x h = asked_below (suc v) v (omega arith) x h

  -- messages are posted
  posted_fine : (i : ℕ) (sends : List (Send P)) (ms : List (Message P)) → Each Fine sends → AllFine ms →
      AllFine (posted i sends ms)
  posted_fine i [] ms h f = f
  posted_fine i (s ∷ sends) ms h f = posted_fine i sends (record { from = i; to = s.to; body = s.message } ∷ ms) h.1
      more
    where
      more : (m : Message P) → Sent m (record { from = i; to = s.to; body = s.message } ∷ ms) → Fine m.body
      more m (inl e) = subst (λ (k : Message P). Fine k.body) (sym e) h.0
      more m (inr k) = f m k

  -- each is so for another reason
  each_so : (Q : PeerMessage P → Type 0) → ((b : PeerMessage P) → Q b → Fine b) → (sends : List (Send P)) →
      Each Q sends → Each Fine sends
  each_so Q g [] h = tt
  each_so Q g (s ∷ sends) h = (g s.message h.0, each_so Q g sends h.1)

  module _ (n : ℕ) (past : ℕ → List (LogEntry P)) where
    -- what a replica sends by right is fine
    why_fine : (w : World P) → Holds n past w → AllFine w.messages → (i : ℕ) (r : State P) → w.replicas i ≡ Some r →
        (ev : Event P) → ((e : LogEntry P) → ev ≡ event.Request e → A e) → (b : PeerMessage P) → Why r ev b → Fine b
    why_fine w inv fine i r up ev asked b h = go b h
      where
        given : Given P
        given = record { used = w.nonces; past = past }

        state : StateFact n w.stored given w.messages i r r.status
        state = (up_of n (all_of n w) w.stored given w.messages inv i r (there_up n w i r up)).state

        logged : (s : Status) → StateFact n w.stored given w.messages i r s → is_normal s ≡ true →
            IsPrefix r.log (listed r.last_normal_view w.messages)
        logged Normal f e = f.active.is_log.within
        logged ViewChange f e = absurd (cc e)
        logged Recovering f e = absurd (cc e)

        above : (s : Status) → StateFact n w.stored given w.messages i r s → is_changing s ≡ true → 0 < r.view_number
        above ViewChange f e = omega (arith, f.before)
        above Normal f e = absurd (cc e)
        above Recovering f e = absurd (cc e)

        prepares : (e : LogEntry P) → (ev ≡ event.Request e) ⊎ ((is_normal r.status ≡ true) × In e r.log) → A e
        prepares e (inl k) = asked e k
        prepares e (inr k) = asked_in n w.stored given w.messages inv.sound fine r.last_normal_view e
            (in_prefix e r.log (listed r.last_normal_view w.messages) (logged r.status state k.0) k.1)

        begins : (v : ℕ) → Enters r v → 0 < v
        begins v (inl lt) = omega (arith, lt)
        begins v (inr k) = subst (λ u. 0 < u) k.1 (above r.status state k.0)

        go : (m : PeerMessage P) → Why r ev m → Fine m
        go (Prepare v e p x) k = prepares e k
        go (StartView v held) k = begins v k
        go (PrepareOk v q) k = tt
        go (Commit v x) k = tt
        go (StartViewChange v) k = tt
        go (DoViewChange v c) k = tt
        go (GetState v y) k = tt
        go (NewState v y tail) k = tt
        go (Recovery x) k = tt
        go (RecoveryResponse x a) k = tt

    -- through a step
    fine_stepped : (w : World P) → Holds n past w → AllFine w.messages → (i : ℕ) (ev : Event P) →
        ((e : LogEntry P) → ev ≡ event.Request e → A e) → (o : Option (State P)) → w.replicas i ≡ o →
        AllFine (stepped i (λ r. step n i r ev) o w).messages
    fine_stepped w inv fine i ev asked None up = fine
    fine_stepped w inv fine i ev asked (Some r) up = posted_fine i (step n i r ev).sends w.messages
        (each_so (Why r ev) (why_fine w inv fine i r up ev asked) (step n i r ev).sends (step_right n i r ev)) fine

    -- a delivery
    fine_delivered : (w : World P) → Holds n past w → AllFine w.messages → (o : Option (Message P)) →
        AllFine (delivered n o w).messages
    fine_delivered w inv fine None = fine
    fine_delivered w inv fine (Some m) = fine_stepped w inv fine m.to (event.Message m.from m.body)
        (λ e k. absurd (cc k)) (w.replicas m.to) refl

    -- a recovery
    fine_recovered : (w : World P) → AllFine w.messages → (i x : ℕ) (o : Option (State P)) →
        AllFine (recovered n i x o w).messages
    fine_recovered w fine i x (Some r) = fine
    fine_recovered w fine i x None = by_test (λ (u : World P). AllFine u.messages) (has_used x (w.nonces i)) _ _
        (λ t. fine) (λ t. posted_fine i _ w.messages (same_each Fine (Recovery x) tt (others n i)) fine)

    -- a crash
    fine_crashed : (w : World P) → AllFine w.messages → (i : ℕ) (o : Option (State P)) →
        AllFine (crashed i o w).messages
    fine_crashed w fine i None = fine
    fine_crashed w fine i (Some r) = fine

    -- a return
    fine_resumed : (w : World P) → AllFine w.messages → (i k : ℕ) (o : Option (State P)) (c : Option (Change P)) →
        AllFine (resumed n i k o c w).messages
    fine_resumed w fine i k (Some r) c = fine
    fine_resumed w fine i k None None = fine
    fine_resumed w fine i k None (Some c) = fine

    -- an event
    fine_happens : (w : World P) → Holds n past w → AllFine w.messages → (ev : WorldEvent P) →
        ((i : ℕ) (e : LogEntry P) → i < n → ev ≡ Request i e → A e) → AllFine (happens n w ev).messages
    fine_happens w inv fine (Request i e) asked = by_test (λ (u : World P). AllFine u.messages) (nat_lt i n) _ _
        (λ t. fine_stepped w inv fine i (event.Request e)
        (λ x k. let same : e ≡ x = cc k in subst A same (asked i e (ltb-true i n t) refl)) (w.replicas i) refl)
        (λ t. fine)
    fine_happens w inv fine (Deliver k) asked = fine_delivered w inv fine (sent_as k w.messages)
    fine_happens w inv fine (Suspect i) asked = by_test (λ (u : World P). AllFine u.messages) (nat_lt i n) _ _
        (λ t. fine_stepped w inv fine i event.Suspect (λ e k. absurd (cc k)) (w.replicas i) refl) (λ t. fine)
    fine_happens w inv fine (Beat i) asked = by_test (λ (u : World P). AllFine u.messages) (nat_lt i n) _ _
        (λ t. fine_stepped w inv fine i event.Beat (λ e k. absurd (cc k)) (w.replicas i) refl) (λ t. fine)
    fine_happens w inv fine (Crash i) asked = by_test (λ (u : World P). AllFine u.messages) (nat_lt i n) _ _
        (λ t. fine_crashed w fine i (w.replicas i)) (λ t. fine)
    fine_happens w inv fine (Recover i x) asked = by_test (λ (u : World P). AllFine u.messages) (nat_lt i n) _ _
        (λ t. fine_recovered w fine i x (w.replicas i)) (λ t. fine)
    fine_happens w inv fine (Resume i k) asked = by_test (λ (u : World P). AllFine u.messages) (nat_lt i n) _ _
        (λ t. fine_resumed w fine i k (w.replicas i) (w.kept i)) (λ t. fine)

    -- Through a whole schedule.
    fine_run : IsSize n → (es : List (WorldEvent P)) (w : World P) → Holds n past w → AllFine w.messages →
        ((i : ℕ) (e : LogEntry P) → i < n → In (Request i e) es → A e) → AllFine (run n es w).messages
    fine_run size [] w inv fine asked = fine
    fine_run size (ev ∷ es) w inv fine asked = fine_run size es (happens n w ev) (happens_holds n size past w inv ev)
        (fine_happens w inv fine ev (λ i e lt k. asked i e lt (inl (sym k)))) (λ i e lt k. asked i e lt (inr k))

-- Each committed record was asked for.
pub committed_was_asked : {P : Type 0} → CommittedWasAsked P
committed_was_asked {P} n size es e h = go (committed_is_longest n size es).1
  where
    w : World P
    w = after n es

    given : Given P
    given = record { used = w.nonces; past = λ v. [] }

    inv : Holds n (λ v. []) w
    inv = after_holds n size es

    fine : AllFine (WasAsked n es) w.messages
    fine = fine_run (WasAsked n es) n (λ v. []) size es (start n) (start_holds n) (λ m s. absurd s)
        (λ i x lt k. record { replica = i; there = lt; asked = k })

    go : (committed n w.messages ≡ []) ⊎ IsChosen n w.messages (committed n w.messages) → WasAsked n es e
    go (inl q) = absurd (subst (In e) q h)
    go (inr c) = asked_in (WasAsked n es) n w.stored given w.messages inv.sound fine c.view_number e
        (subst (In e) (view_list_is n w.stored given w.messages inv.sound c.view_number)
        (in_prefix e (take c.op_number (view_list c.view_number w.messages)) (view_list c.view_number w.messages)
        (prefix_take c.op_number (view_list c.view_number w.messages)) (subst (In e) c.is h)))
