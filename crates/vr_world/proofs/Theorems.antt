-- What goes on from a sound world. The clauses of the law are made of these in Promises.
use Rattle.std.proofs.Common.{◌≡◌, ℕ, ◌≤◌, ◌==◌, nat_lt, true, false, ◌&&◌, ◌⊎◌, inl, inr, List, [], ◌∷◌, ◌++◌, length, take, Option, Some, None, refl, sym, ap, ◌∙◌, subst, arith, le_refl, leb-true, le-leb, le_trans, true≢false}
use Rattle.std.proofs.lemmas.List.{length-take-le}
use Rattle.vr_state.proofs.Laws.{prefix_refl, prefix_nil, prefix_is, take_prefix, count_le, by_test, or_right}
use Rattle.vr_state.specs.Lists.{IsPrefix}
use Rattle.vr_state.specs.Outcome.{Outcome, to_all, others}
use Rattle.vr_state.specs.State.{State, primary, first}
use Rattle.vr_state.specs.Step.{step}
use Rattle.vr_state.specs.declared.message.Change.{Change}
use Rattle.vr_state.specs.declared.message.Send.{Send}
use Rattle.vr_state.specs.Words.{LogEntry}
use Rattle.vr_state.specs.declared.words.Status.{Status}
use Rattle.vr_world.proofs.Agreement.{chosen_within, committed_has, longest_is, IsEmptyOrChosen}
use Rattle.vr_world.proofs.Begin.{replicate_zero}
use Rattle.vr_world.proofs.Growth.{sound_grows, replica_grows}
use Rattle.vr_world.proofs.Invariant.{Given, Below, IsCommitted, ActiveFact, StateFact, UpFact, ReplicaFact, Grows}
use Rattle.vr_world.proofs.Listed.{listed, listed_committed}
use Rattle.vr_world.proofs.Moves.{still_same, grows_same, adds_none}
use Rattle.vr_world.proofs.NormalEvents.{up_of}
use Rattle.vr_world.proofs.Runs.{run_holds}
use Rattle.vr_world.proofs.Invariant.{Holds, all_of, or_kept}
use Rattle.vr_world.proofs.Resumptions.{there_up}
use Rattle.vr_world.proofs.Said.{chosen_fact}
use Rattle.vr_world.specs.Committed.{has_said, says, is_chosen}
use Rattle.vr_world.specs.Law.{IsSize}
use Rattle.vr_world.specs.World.{has_used, World, Message, WorldEvent, posted, stepped, delivered, recovered, crashed, resumed, sent_as, happens, start, run, after}
use Rattle.vr_state.specs.declared.event.Event.TheVariants as event
use Rattle.vr_state.specs.declared.message.PeerMessage.TheVariants.{Recovery}
use Rattle.vr_state.specs.declared.words.Status.TheVariants.{Normal, ViewChange, Recovering}
use Rattle.vr_world.specs.declared.events.WorldEvent.TheVariants.{Request, Deliver, Suspect, Beat, Crash, Recover, Resume}

-- The invariant holds at the start.
pub start_holds : {P : Type 0} (n : ℕ) → Holds {P = P} n (λ v. []) (start n)
start_holds {P} n = record {
  sound = record {
    messages = λ m s. absurd s;
    starts = λ v s pos. absurd (omega (arith, s));
    lists = λ v. inr refl;
    kept = λ v. prefix_nil [];
    rising = λ v. tt;
  };
  each = λ i. by_test (λ o. ReplicaFact n (λ i. 0) (record { used = λ i. []; past = λ v. [] }) [] i
      (or_kept n 0 o None)) (nat_lt i n) (Some (first n)) None (λ t. up i) (λ t. tt);
}
  where
    owed : (i v q : ℕ) → (false ≡ true) ⊎ ((primary n v ≡ i) × (v ≡ 0) × (q ≤ 0)) → Below v q 0 0
    owed i v q (inl e) = absurd (true≢false (sym e))
    owed i v q (inr h) = inr (h.1, h.2)

    up : (i : ℕ) → UpFact {P = P} n (λ i. 0) (record { used = λ i. []; past = λ v. [] }) [] i (first n)
    up i = record {
      view_number = refl;
      state = record {
        active = record {
          is_log = record { started = refl; within = prefix_nil []; whole = le_refl 0 };
          is_com = inl refl;
          within = le_refl 0;
          covers = record { each = λ v q lt o. owed i v q o };
        };
        is_last = refl;
        acks = λ j. inl (replicate_zero n j);
      };
    }

-- The lists so far stay.
lists_stay : {P : Type 0} (n : ℕ) (past : ℕ → List (LogEntry P)) (w : World P) → Holds n past w →
    Holds n (λ v. listed v w.messages) w
lists_stay {P} n past w inv = record {
  sound = sound_grows n w.stored old w.messages w.stored new w.messages g (adds_none n w.stored old w.messages
      w.stored new) (λ v. prefix_refl (listed v w.messages)) inv.sound.rising inv.sound;
  each = λ j. replica_grows n w.stored old w.messages w.stored new w.messages g (adds_none n w.stored old w.messages
      w.stored new) j (all_of n w j) (still_same n w.messages j) refl (inv.each j);
}
  where
    old : Given P
    old = record { used = w.nonces; past = past }

    new : Given P
    new = record { used = w.nonces; past = λ v. listed v w.messages }

    g : Grows n w.stored old w.messages w.stored new w.messages
    g = grows_same n w.stored old w.messages w.stored new (λ j. le_refl (w.stored j)) (λ j x u. u)

-- What was said stays said.

-- what was said stays said as messages are sent
said_posted : {P : Type 0} (v p j i : ℕ) (xs : List (Send P)) (ms : List (Message P)) → has_said v p j ms ≡ true →
    has_said v p j (posted i xs ms) ≡ true
said_posted v p j i [] ms h = h
said_posted v p j i (x ∷ xs) ms h = said_posted v p j i xs (record { from = i; to = x.to; body = x.message } ∷ ms)
    (or_right (i == j && says v p x.message) _ h)

module _ {P : Type 0} (n v p j : ℕ) where
  -- j has said that it has p records of v
  abbrev Said : World P → Type 0
  Said w = has_said v p j w.messages ≡ true

  -- through a step
  said_stepped : (i : ℕ) (step : State P → Outcome P) (o : Option (State P)) (w : World P) → Said w →
      Said (stepped i step o w)
  said_stepped i step None w h = h
  said_stepped i step (Some r) w h = said_posted v p j i (step r).sends w.messages h

  -- a delivery
  said_delivered : (o : Option (Message P)) (w : World P) → Said w → Said (delivered n o w)
  said_delivered None w h = h
  said_delivered (Some m) w h = said_stepped m.to (λ r. step n m.to r (event.Message m.from m.body)) (w.replicas m.to)
      w h

  -- a recovery
  said_recovered : (i x : ℕ) (o : Option (State P)) (w : World P) → Said w → Said (recovered n i x o w)
  said_recovered i x (Some r) w h = h
  said_recovered i x None w h = by_test Said (has_used x (w.nonces i)) _ _ (λ t. h)
      (λ t. said_posted v p j i (to_all n i (Recovery x)) w.messages h)

  -- a crash
  said_crashed : (i : ℕ) (o : Option (State P)) (w : World P) → Said w → Said (crashed i o w)
  said_crashed i None w h = h
  said_crashed i (Some r) w h = h

  -- a return
  said_resumed : (i k : ℕ) (o : Option (State P)) (c : Option (Change P)) (w : World P) → Said w →
      Said (resumed n i k o c w)
  said_resumed i k (Some r) c w h = h
  said_resumed i k None None w h = h
  said_resumed i k None (Some c) w h = h

  -- an event
  said_happens : (w : World P) (e : WorldEvent P) → Said w → Said (happens n w e)
  said_happens w (Request i e) h = by_test Said (nat_lt i n) _ _
      (λ t. said_stepped i (λ r. step n i r (event.Request e)) (w.replicas i) w h) (λ t. h)
  said_happens w (Deliver k) h = said_delivered (sent_as k w.messages) w h
  said_happens w (Suspect i) h = by_test Said (nat_lt i n) _ _ (λ t. said_stepped i (λ r. step n i r event.Suspect)
      (w.replicas i) w h) (λ t. h)
  said_happens w (Beat i) h = by_test Said (nat_lt i n) _ _ (λ t. said_stepped i (λ r. step n i r event.Beat)
      (w.replicas i) w h) (λ t. h)
  said_happens w (Crash i) h = by_test Said (nat_lt i n) _ _ (λ t. said_crashed i (w.replicas i) w h) (λ t. h)
  said_happens w (Recover i x) h = by_test Said (nat_lt i n) _ _ (λ t. said_recovered i x (w.replicas i) w h) (λ t. h)
  said_happens w (Resume i k) h = by_test Said (nat_lt i n) _ _ (λ t. said_resumed i k (w.replicas i) (w.kept i) w h)
      (λ t. h)

  -- Through a whole schedule.
  pub said_run : (es : List (WorldEvent P)) (w : World P) → Said w → Said (run n es w)
  said_run [] w h = h
  said_run (e ∷ es) w h = said_run es (happens n w e) (said_happens w e h)

-- A schedule in two parts.
pub run-append : {P : Type 0} (n : ℕ) (es more : List (WorldEvent P)) (w : World P) → run n (es ++ more) w ≡
    run n more (run n es w)
run-append n [] more w = refl
run-append n (e ∷ es) more w = run-append n es more (happens n w e)

-- The invariant holds after every schedule.
pub after_holds : {P : Type 0} (n : ℕ) → IsSize n → (es : List (WorldEvent P)) → Holds n (λ v. []) (after n es)
after_holds n size es = run_holds n size (λ v. []) es (start n) (start_holds n)

-- from a world with the invariant on
pub committed_stays : {P : Type 0} (n : ℕ) → IsSize n → (past : ℕ → List (LogEntry P)) (w : World P) →
    Holds n past w → (es : List (WorldEvent P)) → IsPrefix (listed_committed n w.messages)
    (listed_committed n (run n es w).messages)
committed_stays {P} n size past w inv es = go (longest_is n w.stored (record { used = w.nonces; past = past })
    w.messages w.messages size inv.sound)
  where
    later : World P
    later = run n es w

    inv' : Holds n (λ v. listed v w.messages) later
    inv' = run_holds n size (λ v. listed v w.messages) es w (lists_stay n past w inv)

    go : IsEmptyOrChosen n w.messages (listed_committed n w.messages) → IsPrefix (listed_committed n w.messages)
        (listed_committed n later.messages)
    go (inl e) = subst (λ l. IsPrefix l (listed_committed n later.messages)) (sym e)
        (prefix_nil (listed_committed n later.messages))
    go (inr c) = subst (λ l. IsPrefix l (listed_committed n later.messages))
        (take_prefix c.op_number (inv'.sound.kept c.view_number) c.within ∙ sym c.is)
        (committed_has n later.stored (record { used = later.nonces; past = λ v. listed v w.messages }) later.messages
        size inv'.sound c.view_number c.op_number chosen)
      where
        chosen : is_chosen n c.view_number c.op_number later.messages ≡ true
        chosen = le-leb _ _ (le_trans (leb-true _ _ c.chosen)
            (count_le (λ j. has_said c.view_number c.op_number j w.messages) (λ j. has_said c.view_number c.op_number
            j later.messages) (others n (primary n c.view_number)) (λ j h. said_run n c.view_number c.op_number j es w
            h)))

-- the first k records of a replica
pub replica_agrees : {P : Type 0} (n : ℕ) → IsSize n → (past : ℕ → List (LogEntry P)) (w : World P) → Holds n past w →
    (i : ℕ) (r : State P) → w.replicas i ≡ Some r → IsPrefix (take r.commit_number r.log)
    (listed_committed n w.messages)
replica_agrees {P} n size past w inv i r up = go r.status (up_of n (all_of n w) w.stored given w.messages inv i r
    (there_up n w i r up)).state
  where
    given : Given P
    given = record { used = w.nonces; past = past }

    nothing : r.commit_number ≡ 0 → IsPrefix (take r.commit_number r.log) (listed_committed n w.messages)
    nothing e = subst (λ k. IsPrefix (take k r.log) (listed_committed n w.messages)) (sym e)
        (prefix_nil (listed_committed n w.messages))

    active : ActiveFact n w.messages i r.view_number r.last_normal_view r.log r.commit_number →
        IsCommitted n w.messages r.last_normal_view r.commit_number → IsPrefix (take r.commit_number r.log)
        (listed_committed n w.messages)
    active h (inl e) = nothing e
    active h (inr c) = subst (λ l. IsPrefix l (listed_committed n w.messages)) same (committed_has n w.stored given
        w.messages size inv.sound c.view_number r.commit_number c.chosen)
      where
        long : length (take r.commit_number (listed c.view_number w.messages)) ≡ r.commit_number
        long = length-take-le r.commit_number (listed c.view_number w.messages)
            (chosen_fact n w.stored given w.messages size inv.sound c.view_number r.commit_number c.chosen).1

        within : IsPrefix (take r.commit_number (listed c.view_number w.messages))
            (listed r.last_normal_view w.messages)
        within = chosen_within n w.stored given w.messages size inv.sound c.view_number r.last_normal_view
            r.commit_number c.low h.is_log.started c.chosen

        same : take r.commit_number (listed c.view_number w.messages) ≡ take r.commit_number r.log
        same = prefix_is within ∙ ap (λ k. take k (listed r.last_normal_view w.messages)) long
            ∙ take_prefix r.commit_number h.is_log.within h.within

    go : (s : Status) → StateFact n w.stored given w.messages i r s → IsPrefix (take r.commit_number r.log)
        (listed_committed n w.messages)
    go Normal h = active h.active h.active.is_com
    go ViewChange h = active h.active h.active.is_com
    go Recovering h = nothing h.nothing
