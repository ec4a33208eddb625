-- A replica crashes, and goes on from its journal. A replica that is down and has a journal is looked at as it would go
-- on: so its crash changes little, and its return less.
use Rattle.std.proofs.Common.{◌≡◌, ℕ, ◌≤◌, ◌==◌, min, Bool, true, false, cond, inl, List, Option, Some, None, refl, sym, ap, ◌∙◌, subst, arith, le_refl, eqb-true, eq-eqb}
use mathlib.Core.Path.{fun_ext}
use Rattle.vr_state.proofs.Laws.{by_test}
use Rattle.vr_state.specs.Outcome.{Outcome}
use Rattle.vr_state.specs.State.{State, is_recovering, resuming}
use Rattle.vr_state.specs.ViewChange.{own_change}
use Rattle.vr_state.specs.declared.message.Change.{Change}
use Rattle.vr_state.specs.Words.{LogEntry}
use Rattle.vr_state.specs.declared.words.Status.{Status}
use Rattle.vr_state.specs.declared.words.Status.TheVariants.{Normal, ViewChange, Recovering}
use Rattle.vr_world.proofs.Begin.{replicate_zero}
use Rattle.vr_world.proofs.Invariant.{Given, ActiveFact, NormalFact, ChangingFact, StateFact, UpFact, ReplicaFact, Invariant, or_kept, all_of, Holds}
use Rattle.vr_world.proofs.Moves.{put_rule, put_same, settle}
use Rattle.vr_world.proofs.Safety.{com_less}
use Rattle.vr_world.specs.World.{World, Message, put, made, kept_of, crashed, resumed}

-- A replica that is up is there,
pub there_up : {P : Type 0} (n : ℕ) (w : World P) (i : ℕ) (r : State P) → w.replicas i ≡ Some r → all_of n w i ≡ Some r
there_up n w i r e = ap (λ o. or_kept n (w.stored i) o (w.kept i)) e

-- and after a step it is there as the step leaves it, whatever was kept of it before.
pub all_made : {P : Type 0} (n i : ℕ) (d : Outcome P) (w : World P) → all_of n (made i d w) ≡ put i (Some d.state)
    (all_of n w)
all_made {P} n i d w = fun_ext (λ j. go j (j == i))
  where
    go : (j : ℕ) (b : Bool) → or_kept n (cond b d.state.view_number (w.stored j))
        (cond b (Some d.state) (w.replicas j)) (w.kept j) ≡ cond b (Some d.state) (all_of n w j)
    go j true = refl
    go j false = refl

module _ {P : Type 0} (n : ℕ) (stored : ℕ → ℕ) (given : Given P) (ms : List (Message P)) (i : ℕ) where
  -- fewer are committed
  fewer : (v last : ℕ) (log : List (LogEntry P)) (k x : ℕ) → x ≤ k → ActiveFact n ms i v last log k →
      ActiveFact n ms i v last log x
  fewer v last log k x le h = record {
    is_log = h.is_log;
    is_com = com_less n ms last k x le h.is_com;
    within =
        omega (arith, h.within, le);
    covers = h.covers;
  }

  -- It goes on normal where it was,
  normal_again : (k : ℕ) (r : State P) → NormalFact n ms i r.view_number r.last_normal_view r.log r.commit_number
      r.acknowledged → StateFact n stored given ms i (resuming n r.view_number k (own_change r))
      (cond (r.last_normal_view == r.view_number) Normal ViewChange)
  normal_again k r h = subst (λ b. StateFact n stored given ms i (resuming n r.view_number k (own_change r))
      (cond b Normal ViewChange)) (sym (eq-eqb _ _ h.is_last))
      (record {
        active = fewer r.view_number r.last_normal_view r.log r.commit_number (min k r.commit_number)
            (omega arith) h.active;
        is_last = h.is_last;
        acks = λ j. inl (replicate_zero n j);
      })

  -- and changing where it was changing.
  changing_again : (k : ℕ) (r : State P) → ChangingFact n stored ms i r.view_number r.last_normal_view r.log
      r.commit_number r.do_view_changes → StateFact n stored given ms i (resuming n r.view_number k (own_change r))
      (cond (r.last_normal_view == r.view_number) Normal ViewChange)
  changing_again k r h = by_test (λ s. StateFact n stored given ms i (resuming n r.view_number k (own_change r)) s)
      (r.last_normal_view == r.view_number) Normal ViewChange
      (λ t. absurd (omega (arith, eqb-true _ _ t, h.before)))
      (λ t. record {
        active = fewer r.view_number r.last_normal_view r.log r.commit_number (min k r.commit_number) (omega arith)
            h.active;
        before = h.before;
        unstarted = h.unstarted;
        each = λ j c e. absurd (cc e);
      })

  -- What is kept of a replica has what the replica had.
  pub kept_fact : (r : State P) → UpFact n stored given ms i r → ReplicaFact n stored given ms i
      (or_kept n (stored i) None (kept_of r))
  kept_fact r h = subst (λ v. ReplicaFact n stored given ms i (or_kept n v None (kept_of r))) h.view_number
      (go r.status h.state)
    where
      go : (s : Status) → StateFact n stored given ms i r s → ReplicaFact n stored given ms i
          (or_kept n r.view_number None (cond (is_recovering s) None (Some (own_change r))))
      go Recovering f = tt
      go Normal f = record { view_number = h.view_number; state = normal_again r.commit_number r f }
      go ViewChange f = record { view_number = h.view_number; state = changing_again r.commit_number r f }

  -- It may have forgotten how much was committed.
  pub forgets : (stored' : ℕ → ℕ) (v k : ℕ) (c : Change P) → StateFact n stored given ms i
      (resuming n v c.commit_number c) (cond (c.last_normal_view == v) Normal ViewChange) → StateFact n stored' given
      ms i (resuming n v k c) (cond (c.last_normal_view == v) Normal ViewChange)
  forgets stored' v k c = go (c.last_normal_view == v)
    where
      go : (b : Bool) → StateFact n stored given ms i (resuming n v c.commit_number c) (cond b Normal ViewChange) →
          StateFact n stored' given ms i (resuming n v k c) (cond b Normal ViewChange)
      go true h = record {
        active = fewer v c.last_normal_view c.log (min c.commit_number c.commit_number)
            (min k c.commit_number) (omega arith) h.active;
        is_last = h.is_last;
        acks = h.acks;
      }
      go false h = record {
        active = fewer v c.last_normal_view c.log (min c.commit_number c.commit_number)
            (min k c.commit_number) (omega arith) h.active;
        before = h.before;
        unstarted = h.unstarted;
        each = λ j c e.
            absurd (cc e);
      }

module _ {P : Type 0} (n : ℕ) (past : ℕ → List (LogEntry P)) where
  -- what the invariant is told
  abbrev told : World P → Given P
  told w = record { used = w.nonces; past = past }

  -- A crash leaves what is kept.
  pub crash_holds : (w : World P) → Holds n past w → (i : ℕ) (o : Option (State P)) → w.replicas i ≡ o →
      Holds n past (crashed i o w)
  crash_holds w inv i None e = inv
  crash_holds w inv i (Some r) e = subst (λ f. Invariant n f w.stored (told w) w.messages) (sym gone) (record {
    sound = inv.sound;
    each = put_rule i (or_kept n (w.stored i) None (kept_of r)) (all_of n w) (λ j x. ReplicaFact n w.stored (told w)
        w.messages j x)
        (kept_fact n w.stored (told w) w.messages i r (subst (λ x. ReplicaFact n w.stored (told w) w.messages i x)
        (there_up n w i r e) (inv.each i))) (λ j ne. inv.each j);
  })
    where
      gone : all_of n (crashed i (Some r) w) ≡ put i (or_kept n (w.stored i) None (kept_of r)) (all_of n w)
      gone = fun_ext (λ j. go j (j == i) refl)
        where
          go : (j : ℕ) (b : Bool) → (j == i) ≡ b → or_kept n (w.stored j) (cond b None (w.replicas j))
              (cond b (kept_of r) (w.kept j)) ≡ cond b (or_kept n (w.stored i) None (kept_of r)) (all_of n w j)
          go j true t = ap (λ k. or_kept n (w.stored k) None (kept_of r)) (eqb-true j i t)
          go j false t = refl

  -- A replica that goes on is as it was looked at.
  pub resume_holds : (w : World P) → Holds n past w → (i k : ℕ) (o : Option (State P)) (c : Option (Change P)) →
      w.replicas i ≡ o → w.kept i ≡ c → Holds n past (resumed n i k o c w)
  resume_holds w inv i k (Some r) c e f = inv
  resume_holds w inv i k None None e f = inv
  resume_holds w inv i k None (Some c) e f = subst (λ g. Invariant n g (put i view w.stored) (told w) w.messages)
      (sym back)
      (settle n w.stored (told w) w.messages (all_of n w) inv i s (le_refl view) (record {
        view_number = sym (put_same i view w.stored);
        state = forgets n w.stored (told w) w.messages i (put i view w.stored) view k c before.state;
      }))
    where
      view : ℕ
      view = w.stored i

      s : State P
      s = resuming n view k c

      down : all_of n w i ≡ Some (resuming n view c.commit_number c)
      down = ap (λ o. or_kept n view o (w.kept i)) e ∙ ap (λ x. or_kept n view None x) f

      before : UpFact n w.stored (told w) w.messages i (resuming n view c.commit_number c)
      before = subst (λ x. ReplicaFact n w.stored (told w) w.messages i x) down (inv.each i)

      back : all_of n (resumed n i k None (Some c) w) ≡ put i (Some s) (all_of n w)
      back = fun_ext (λ j. go j (j == i))
        where
          go : (j : ℕ) (b : Bool) → or_kept n (cond b view (w.stored j)) (cond b (Some s) (w.replicas j))
              (cond b None (w.kept j)) ≡ cond b (Some s) (all_of n w j)
          go j true = refl
          go j false = refl
