-- The records that a message's sender and a replica both count as committed are the same. Nothing else is proved here.
use Rattle.std.proofs.Common.{◌≡◌, ℕ, ◌≤◌, ◌⊎◌, inl, inr, List, [], ◌∷◌, length, take, Some, refl, sym, ap, ◌∙◌, subst, arith, le_refl}
use Rattle.std.proofs.lemmas.List.{length-take-le}
use Rattle.vr_state.proofs.Laws.{prefix_trans, prefix_nil, prefix_take, prefix_full, prefix_shorter, take_prefix}
use Rattle.vr_state.specs.Lists.{IsPrefix, In}
use Rattle.vr_state.specs.State.{State}
use Rattle.vr_state.specs.Words.{LogEntry}
use Rattle.vr_state.specs.declared.message.PeerMessage.{PeerMessage}
use Rattle.vr_state.specs.declared.words.Status.{Status}
use Rattle.vr_world.proofs.Agreement.{chosen_within, committed_has}
use Rattle.vr_world.proofs.Invariant.{Given, Sent, Holds, BodyFact, IsLogOf, IsCommitted, StateFact, all_of}
use Rattle.vr_world.proofs.Listed.{listed, listed_committed}
use Rattle.vr_world.proofs.NormalEvents.{up_of}
use Rattle.vr_world.proofs.Resumptions.{there_up}
use Rattle.vr_world.proofs.Said.{chosen_fact, start_log_within}
use Rattle.vr_world.proofs.StepsKeep.{commits_are_held}
use Rattle.vr_world.proofs.Theorems.{after_holds}
use Rattle.vr_world.specs.Beginnings.{log_in, committed_in, BeginningsAgree}
use Rattle.vr_world.specs.Law.{IsSize}
use Rattle.vr_world.specs.World.{World, Message, WorldEvent, after}
use Rattle.vr_state.specs.declared.message.PeerMessage.TheVariants.{Prepare, PrepareOk, Commit, StartViewChange, DoViewChange, StartView, GetState, NewState, Recovery, RecoveryResponse}
use Rattle.vr_state.specs.declared.words.Status.TheVariants.{Normal, ViewChange, Recovering}

-- one of the messages was sent
sent_of : {P : Type 0} (m : Message P) (ms : List (Message P)) → In m ms → Sent m ms
sent_of m [] h = h
sent_of m (x ∷ ms) (inl e) = inl e
sent_of m (x ∷ ms) (inr h) = inr (sent_of m ms h)

-- two beginnings of one list that are as long are the same
same_long : {A : Type 0} (x : ℕ) (a b l : List A) → x ≤ length a → x ≤ length b → IsPrefix (take x a) l →
    IsPrefix (take x b) l → take x a ≡ take x b
same_long x a b l la lb p q =
    prefix_full (prefix_shorter p q (omega (arith, length-take-le x a la, length-take-le x b lb)))
    (omega (arith, length-take-le x a la, length-take-le x b lb))

module _ {P : Type 0} (n : ℕ) (size : IsSize n) (w : World P) (inv : Holds n (λ v. []) w) where
  -- what the invariant is told
  abbrev given : Given P
  given = record { used = w.nonces; past = λ v. [] }

  -- the first x records of a log of view u are committed, where its owner counts as many
  begins : (u k x : ℕ) (l : List (LogEntry P)) → IsLogOf w.messages u l → IsCommitted n w.messages u k → x ≤ k →
      x ≤ length l → IsPrefix (take x l) (listed_committed n w.messages)
  begins u k x l h (inl e) low short = let z : 0 ≡ x = omega (arith, e, low) in subst
      (λ y. IsPrefix (take y l) (listed_committed n w.messages)) z (prefix_nil (listed_committed n w.messages))
  begins u k x l h (inr c) low short = subst (λ y. IsPrefix y (listed_committed n w.messages)) same
      (prefix_trans (prefix_take x chosen) (committed_has n w.stored given w.messages size inv.sound c.view_number k
      c.chosen))
    where
      -- what was chosen
      chosen : List (LogEntry P)
      chosen = take k (listed c.view_number w.messages)

      long : x ≤ length chosen
      long = omega (
        arith,
        low,
        length-take-le k (listed c.view_number w.messages) (chosen_fact n w.stored given
            w.messages size inv.sound c.view_number k c.chosen).1,
      )

      within : IsPrefix chosen (listed u w.messages)
      within = chosen_within n w.stored given w.messages size inv.sound c.view_number u k c.low h.started c.chosen

      same : take x chosen ≡ take x l
      same = sym (take_prefix x within long) ∙ take_prefix x h.within short

  -- of a replica
  of_replica : (i : ℕ) (r : State P) → w.replicas i ≡ Some r → (x : ℕ) → x ≤ r.commit_number → x ≤ length r.log →
      IsPrefix (take x r.log) (listed_committed n w.messages)
  of_replica i r up x low short = go r.status (up_of n (all_of n w) w.stored given w.messages inv i r
      (there_up n w i r up)).state
    where
      go : (s : Status) → StateFact n w.stored given w.messages i r s →
          IsPrefix (take x r.log) (listed_committed n w.messages)
      go Normal h = begins r.last_normal_view r.commit_number x r.log h.active.is_log h.active.is_com low short
      go ViewChange h = begins r.last_normal_view r.commit_number x r.log h.active.is_log h.active.is_com low short
      go Recovering h = let e : 0 ≡ x = omega (arith, h.nothing, low) in subst
          (λ y. IsPrefix (take y r.log) (listed_committed n w.messages)) e (prefix_nil (listed_committed n w.messages))

  -- no records
  abbrev no_records : List (LogEntry P)
  no_records = []

  -- of no log
  nothing : (x : ℕ) → x ≤ 0 → IsPrefix (take x no_records) (listed_committed n w.messages)
  nothing x short = let e : 0 ≡ x = omega (arith, short) in subst (λ y. IsPrefix (take y no_records)
      (listed_committed n w.messages)) e (prefix_nil (listed_committed n w.messages))

  -- of a message
  of_message : (from to : ℕ) (b : PeerMessage P) → BodyFact n w.stored given w.messages from to b → (x : ℕ) →
      x ≤ committed_in b → x ≤ length (log_in b) → IsPrefix (take x (log_in b)) (listed_committed n w.messages)
  of_message from to (DoViewChange v c) f x low short = begins c.last_normal_view c.commit_number x c.log f.log
      f.commit_number low short
  of_message from to (StartView v held) f x low short = begins v held.commit_number x held.log is_log f.commit_number
      low short
    where
      is_log : IsLogOf w.messages v held.log
      is_log = subst (λ l. IsLogOf w.messages v l) (sym f.log)
          (record { started = f.started; within = start_log_within v w.messages; whole = le_refl _ })
  of_message from to (Prepare v e p k) f x low short = nothing x short
  of_message from to (PrepareOk v p) f x low short = nothing x short
  of_message from to (Commit v k) f x low short = nothing x short
  of_message from to (StartViewChange v) f x low short = nothing x short
  of_message from to (GetState v k) f x low short = nothing x short
  of_message from to (NewState v k tail) f x low short = nothing x short
  of_message from to (Recovery k) f x low short = nothing x short
  of_message from to (RecoveryResponse k a) f x low short = nothing x short

-- Those first records are the same.
pub beginnings_agree : {P : Type 0} → BeginningsAgree P
beginnings_agree {P} n size es m h i r up x low short most =
    same_long x r.log (log_in m.body) (listed_committed n w.messages) within short (of_replica n size w inv i r up x
    most within)
    (of_message n size w inv m.from m.to m.body (inv.sound.messages m (sent_of m w.messages h)) x low short)
  where
    w : World P
    w = after n es

    inv : Holds n (λ v. []) w
    inv = after_holds n size es

    within : x ≤ length r.log
    within = omega (arith, most, commits_are_held n size es i r up)
