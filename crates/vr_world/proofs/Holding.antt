-- Of any majority that takes part one has all that is committed.
use Rattle.std.proofs.Common.{◌≡◌, ℕ, ◌/◌, ◌<◌, ◌==◌, Bool, true, false, ◌||◌, ◌⊎◌, inl, inr, List, [], length, take, sym, subst, arith, eqb-true, leb-true, mod-lt, true≢false}
use Rattle.vr_state.proofs.Laws.{quorums, count_some, either_true, prefix_nil, prefix_trans, prefix_take, prefix_shorter, take_prefix}
use Rattle.vr_state.specs.Lists.{IsPrefix, In}
use Rattle.vr_state.specs.Outcome.{indices, count}
use Rattle.vr_state.specs.State.{primary, is_recovering}
use Rattle.vr_state.specs.Words.{LogEntry}
use Rattle.vr_state.specs.declared.words.Status.{Status}
use Rattle.vr_state.specs.declared.words.Status.TheVariants.{Normal, ViewChange, Recovering}
use Rattle.vr_world.proofs.Agreement.{longest_is, IsEmptyOrChosen}
use Rattle.vr_world.proofs.Invariant.{Given, Owes, Below, ActiveFact, StateFact, Holds, all_of}
use Rattle.vr_world.proofs.Listed.{listed, listed_committed}
use Rattle.vr_world.proofs.NormalEvents.{up_of}
use Rattle.vr_world.proofs.Resumptions.{there_up}
use Rattle.vr_world.proofs.Safety.{begins_with, owes_low}
use Rattle.vr_world.proofs.Said.{chosen_fact, start_log_within}
use Rattle.vr_world.proofs.Theorems.{after_holds}
use Rattle.vr_world.proofs.ViewList.{committed_is}
use Rattle.vr_world.specs.Committed.{has_said, is_chosen}
use Rattle.vr_world.specs.Law.{IsSize, TakesPart, IsHeld, MajoritiesHold}
use Rattle.vr_world.specs.World.{World, after}

module _ {P : Type 0} (n : ℕ) (size : IsSize n) (past : ℕ → List (LogEntry P)) (w : World P) (inv : Holds n past w)
  where
    -- what the invariant is told
    abbrev given : Given P
    given = record { used = w.nonces; past = past }

    -- what holds of a replica that takes part
    active_of : (j : ℕ) (t : TakesPart w j) → ActiveFact n w.messages j t.replica.view_number t.replica.last_normal_view
        t.replica.log t.replica.commit_number
    active_of j t = go t.replica.status t.active (up_of n (all_of n w) w.stored given w.messages inv j t.replica
        (there_up n w j t.replica t.up)).state
      where
        go : (s : Status) → is_recovering s ≡ false → StateFact n w.stored given w.messages j t.replica s →
            ActiveFact n w.messages j t.replica.view_number t.replica.last_normal_view t.replica.log
            t.replica.commit_number
        go Normal e h = h.active
        go ViewChange e h = h.active
        go Recovering e h = absurd (true≢false e)

    -- who owes what is chosen, and takes part, has it
    owed_held : (v p : ℕ) → is_chosen n v p w.messages ≡ true → (j : ℕ) (t : TakesPart w j) → Owes n w.messages j v p →
        IsPrefix (take p (listed v w.messages)) t.replica.log
    owed_held v p chosen j t owes =
        go (h.covers.each v p (omega (arith, owes_low n w.stored given w.messages inv.sound j v p owes, at)) owes)
      where
        h : ActiveFact n w.messages j t.replica.view_number t.replica.last_normal_view t.replica.log
            t.replica.commit_number
        h = active_of j t

        at : t.replica.view_number ≡ w.stored j
        at = (up_of n (all_of n w) w.stored given w.messages inv j t.replica (there_up n w j t.replica t.up)).view_number

        go : Below v p t.replica.last_normal_view (length t.replica.log) → IsPrefix (take p (listed v w.messages))
            t.replica.log
        go (inl lt) = prefix_trans (begins_with n w.stored given w.messages size inv.sound t.replica.last_normal_view v
            t.replica.last_normal_view p (omega arith) lt h.is_log.started chosen)
            (prefix_shorter (start_log_within t.replica.last_normal_view w.messages) h.is_log.within h.is_log.whole)
        go (inr (e, short)) = subst (λ u. IsPrefix (take p (listed u w.messages)) t.replica.log) (sym e)
            (subst (λ l. IsPrefix l t.replica.log) (sym (take_prefix p h.is_log.within short))
            (prefix_take p t.replica.log))

    -- one of a majority has it
    pub one_holds : (quorum : ℕ → Bool) → n / 2 < count quorum (indices n) →
        ((j : ℕ) → quorum j ≡ true → TakesPart w j) → IsHeld w (listed_committed n w.messages)
    one_holds quorum most part = go (longest_is n w.stored given w.messages w.messages size inv.sound)
      where
        go : IsEmptyOrChosen n w.messages (listed_committed n w.messages) → IsHeld w (listed_committed n w.messages)
        go (inl e) = record {
          index = one.0;
          replica = t.replica;
          up = t.up;
          all = subst (λ l. IsPrefix l t.replica.log)
              (sym e) (prefix_nil t.replica.log);
        }
          where
            one : (j : ℕ) × (quorum j ≡ true)
            one = count_some quorum (indices n) (omega (arith, most))

            t : TakesPart w one.0
            t = part one.0 one.1
        go (inr c) = record {
          index = meet.0;
          replica = t.replica;
          up = t.up;
          all =
              subst (λ l. IsPrefix l t.replica.log) (sym c.is) (owed_held c.view_number c.op_number c.chosen meet.0 t
              (owes (either_true _ _ meet.2)));
        }
          where
            meet : (r : ℕ) × In r (indices n)
                × ((has_said c.view_number c.op_number r w.messages || r == primary n c.view_number) ≡ true)
                × (quorum r ≡ true)
            meet = quorums n (primary n c.view_number) (λ r. has_said c.view_number c.op_number r w.messages) quorum
                size.odd (mod-lt c.view_number (omega (arith, size.three))) (leb-true _ _ c.chosen) most

            t : TakesPart w meet.0
            t = part meet.0 meet.3

            owes : (has_said c.view_number c.op_number meet.0 w.messages ≡ true)
                ⊎ ((meet.0 == primary n c.view_number) ≡ true) → Owes n w.messages meet.0 c.view_number c.op_number
            owes (inl e) = inl e
            owes (inr e) = let f = chosen_fact n w.stored given w.messages size inv.sound c.view_number c.op_number
                c.chosen in inr (sym (eqb-true _ _ e), f.0, f.1)

-- Of any majority that takes part one has all that is committed.
pub majorities_hold : {P : Type 0} → MajoritiesHold P
majorities_hold {P} n size es quorum most part =
    subst (λ l. IsHeld (after n es) l)
    (sym (committed_is n (after n es).stored (record { used = (after n es).nonces; past = λ v. [] })
    (after n es).messages inv.sound))
    (one_holds n size (λ v. []) (after n es) inv quorum most part)
  where
    inv : Holds {P = P} n (λ v. []) (after n es)
    inv = after_holds n size es
