-- A start over strings that tell a replica goes on as that replica.
use Rattle.std.proofs.Common.{◌≡◌, ℕ, ◌==◌, cond, min, true, false, List, Option, Some, take, inl, inr, refl, sym, ap, ◌∙◌, subst, arith, true≢false}
use Rattle.state_machine.specs.dir_store.ldap_op.Values.{OpValue}
use Rattle.log_journal.specs.Batches.{OneIsTold}
use Rattle.log_journal.specs.Kept.{IsMemory}
use Rattle.log_journal.specs.Told.{Told, Tells, nothing_told}
use Rattle.log_journal.specs.journal.Frames.{recorded}
use Rattle.log_journal.specs.journal.declared.journal.Journal.{Journal}
use Rattle.view_store.specs.declared.slot.Pair.{Pair}
use Rattle.vr_state.specs.Journaled.{Kept, IsKeptOf, after_events}
use Rattle.vr_state.specs.Outcome as steps
use Rattle.vr_state.specs.State.{State, LogEntry, first, is_recovering}
use Rattle.vr_state.specs.declared.words.Status.TheVariants.{Normal, ViewChange}
use Rattle.dir_node.specs.Logged.{LeavesTold}
use Rattle.dir_node.specs.NodeState.{NodeValue, given, head}
use Rattle.dir_node.specs.Restarting.{IsRestart, Restart, change_of}
use Rattle.dir_node.specs.Returning.{GoesOnAs, IsBackAs, JournalsReturn, RestartIsOfTaken, RestartIsOfTold}
use Rattle.dir_node.specs.declared.owner.Owner.{Owner}
use Rattle.vr_state.specs.State as states

-- a replica that goes on, by what is kept of it
abbrev gone_on : ℕ → (view last : ℕ) → List (LogEntry OpValue) → ℕ → State OpValue
gone_on n view last log k = record (first n) {
  view_number = view;
  status = cond (last == view) Normal ViewChange;
  last_normal_view = last;
  log = log;
  commit_number = k;
}

-- what is kept of a replica is gone on from
kept_back : (n : ℕ) (h : Kept OpValue) (r : State OpValue) → IsKeptOf h r → gone_on n h.view h.last h.log
    (min h.k h.k) ≡ gone_on n r.view_number r.last_normal_view r.log (min h.k r.commit_number)
kept_back n h r of = λ i. gone_on n (of.view i) (of.last i) (of.log i) (same i)
  where
    same : min h.k h.k ≡ min h.k r.commit_number
    same = omega (arith, of.low)

module _ (one : OneIsTold) where
  -- A start over strings goes on as the replica that they keep.
  of_kept : (o : Owner) (pair : Pair) (t : Told) (r : State OpValue) (strings : List (List ℕ)) (s : Restart)
      (h : Kept OpValue) → Tells nothing_told strings (record t { kept = h }) → IsKeptOf h r →
      IsRestart o pair strings s
      → is_recovering s.outcome.state.status ≡ false → GoesOnAs o.count r s
  of_kept o pair t r strings s h tells of (inl b) active =
      absurd (true≢false (sym (ap (λ (x : Restart). is_recovering x.outcome.state.status) b.is) ∙ active))
  of_kept o pair t r strings s h tells of (inr (inl b)) active =
      absurd (true≢false (sym (ap (λ (x : Restart). is_recovering x.outcome.state.status) b.is) ∙ active))
  of_kept o pair t r strings s h tells of (inr (inr b)) active = record {
    k = h.k;
    low = of.low;
    outcome = ap (λ (x : Restart). x.outcome) b.is
        ∙ ap (λ (u : Told). steps.idle (states.resuming o.count u.kept.view u.kept.k (change_of u.kept))) same
        ∙ ap (λ (x : State OpValue). steps.idle x) (kept_back o.count h r of);
  }
    where
      same : b.told ≡ record t { kept = h }
      same = one strings nothing_told b.told (record t { kept = h }) b.tells tells

  -- So it goes on as the replica that they tell,
  pub restart_told_back : RestartIsOfTold
  restart_told_back o pair t r strings s m by active = of_kept o pair t r strings s m.kept m.tells m.of by active

  -- or as that after some first of the events that were taken.
  pub restart_taken_back : RestartIsOfTaken
  restart_taken_back o pair t n i r es strings s m by active = record {
    taken = m.of.taken;
    some = m.of.some;
    many = m.of.kept.count;
    back = of_kept o pair t (after_events n i r (take m.of.kept.count m.of.taken)) strings s m.kept m.tells
        m.of.kept.kept by active;
  }

  -- And a node is back as it was.
  pub journals_back : (D : Type 0) {J : Type 0} (may_leave : J → List ℕ → Type 0) → JournalsReturn D may_leave
  journals_back D {J} may_leave config finding n m j image out is keeps left by active = record {
    k = goes.k;
    low = goes.low;
    state = by.made.replica_is ∙ ap (λ (d : steps.Outcome OpValue). d.state) goes.outcome;
  }
    where
      told : IsMemory (head n) n.replica (recorded image)
      told = subst (λ (x : Option (Journal J)). LeavesTold may_leave x (head n) n.replica) is keeps image left

      goes : GoesOnAs config.count n.replica by.start
      goes = restart_told_back _ by.former (head n) n.replica (recorded image) by.start told by.is
          (ap (λ (x : State OpValue). is_recovering x.status) (sym by.made.replica_is) ∙ active)
