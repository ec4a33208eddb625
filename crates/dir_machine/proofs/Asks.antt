-- What is shown of a question is so in the world.
use Rattle.std.proofs.Common.{◌≡◌, ℕ, zero, suc, ◌+◌, ◌-◌, ◌<◌, ◌≤◌, ◌==◌, nat_lt, not, ◌&&◌, Bool, true, false, cond, inl, inr, List, [], ◌∷◌, ◌++◌, length, Option, Some, None, slice_get, refl, sym, ap, ◌∙◌, subst, arith, eqb-true, eq-eqb, true≢false, ltb-true, length-append}
use Rattle.std.specs.Arc.{arc_value}
use Rattle.std.proofs.lemmas.Bool.{ltb-false}
use Rattle.std.proofs.lemmas.List.{map-append}
use Rattle.std.proofs.lemmas.Option.{slice_get_within}
use Rattle.dir_node.specs.Outcomes.{OutcomeValue, done, pending, stale, lost, outcome_at, outcome_by, outcome_of, standing_by, standing_of}
use Rattle.dir_node.specs.declared.standing.Standing.{Standing}
use Rattle.dir_node.specs.declared.standing.Standing.TheVariants.{Recovering}
use Rattle.state_machine.proofs.dir_store.Joins.{replies_join}
use Rattle.state_machine.specs.Executing.{ops_of, replies_at}
use Rattle.state_machine.specs.directory_api.Answers.{ReplyModel}
use Rattle.state_machine.specs.dir_store.Updates.{applied, empty_directory, replies_after, replies_of}
use Rattle.state_machine.specs.dir_store.ldap_dn.Names.{RdnModel}
use Rattle.state_machine.specs.dir_store.ldap_op.Values.{OpValue}
use Rattle.state_machine.specs.dir_store.ldap_schema.Schema.{SchemaModel}
use Rattle.state_machine.specs.indexed_tree.Directory.{Directory}
use Rattle.vr_state.proofs.Laws.{prefix_shorter, prefix_take, prefix_trans}
use Rattle.vr_state.specs.ClientTable.{latest}
use Rattle.vr_state.specs.Lists.{IsNamedIn, IsPrefix}
use Rattle.vr_state.specs.State.{leads, primary}
use Rattle.vr_state.specs.StepLaw.{LatestIsOfClient}
use Rattle.vr_state.specs.Words.{Client, LogEntry}
use Rattle.vr_state.specs.declared.words.Latest.{Latest}
use Rattle.vr_world.specs.Committed.{committed}
use Rattle.vr_world.specs.Law.{IsSize}
use Rattle.vr_world.specs.World.{World}
use Rattle.dir_machine.proofs.Gives.{down_not_up, unborn_not_up}
use Rattle.dir_machine.proofs.Processes.{IsQuiet}
use Rattle.dir_machine.proofs.Worlds.{IsReached, begins_committed}
use Rattle.dir_machine.specs.Happening.{IsByReplica, IsByTable, IsDoneIn, IsMadeIn, MayHappen}
use Rattle.dir_machine.specs.Shown.{became_view, stage}
use Rattle.dir_machine.specs.private.Processes.{IsAnswered, IsToldOf, MemoryNode}
use Rattle.dir_machine.specs.private.Running.{IsUp, StandsFor}
use Rattle.dir_machine.specs.declared.events.MachineEvent.TheVariants as event
use Rattle.dir_machine.specs.declared.machine.Machine.{Machine}
use Rattle.dir_machine.specs.declared.process.Process.{Process}
use Rattle.dir_machine.specs.declared.process.Process.TheVariants.{Unborn, Up, Down}
use Rattle.dir_machine.specs.declared.replies.MachineReply.{MachineReply}
use Rattle.dir_machine.specs.declared.replies.MachineReply.TheVariants as reply

-- a place within a list stays as it goes on
get_front : {A : Type 0} (xs ys : List A) (k : ℕ) (x : A) → slice_get xs k ≡ Some x → slice_get (xs ++ ys) k ≡ Some x
get_front [] ys k x h = absurd (cc)
get_front (y ∷ xs) ys zero x h = h
get_front (y ∷ xs) ys (suc k) x h = get_front xs ys k x h

-- as many replies as updates
replies_length : (d : Directory) (n : ℕ) (ops : List OpValue) → length (replies_after d n ops) ≡ length ops
replies_length d n [] = refl
replies_length d n (u ∷ ops) = ap suc (replies_length (applied d (n + 1) u) (n + 1) ops)

ops_length : (es : List (LogEntry OpValue)) → length (ops_of es) ≡ length es
ops_length [] = refl
ops_length (e ∷ es) = ap suc (ops_length es)

-- the reply at a place stays as records join
reply_stays : (s : SchemaModel) (root : List RdnModel) (xs ys : List (LogEntry OpValue)) (k : ℕ) (x : ReplyModel) →
    IsPrefix xs ys → slice_get (replies_of s root (ops_of xs)) k ≡ Some x → slice_get (replies_of s root (ops_of ys))
    k ≡ Some x
reply_stays s root xs ys k x p h =
    ap (λ l. slice_get l k)
    (ap (λ (l : List (LogEntry OpValue)). replies_of s root (ops_of l)) (sym p.is)
    ∙ ap (λ l. replies_of s root l) (map-append (λ (e : LogEntry OpValue). e.payload) xs p.rest)
    ∙ replies_join (empty_directory s root) 0 (ops_of xs) (ops_of p.rest))
    ∙ get_front (replies_of s root (ops_of xs)) _ k x h

-- two values of outcomes differ
module _ (place : ℕ) (r : ReplyModel) where
  lost_not_done : lost ≡ done place r → ⊥
  lost_not_done e = cc

  stale_not_done : stale ≡ done place r → ⊥
  stale_not_done e = cc

  pending_not_done : pending ≡ done place r → ⊥
  pending_not_done e = cc

-- what is done has this place and this reply
record IsDoneBy (n : MemoryNode) (client : Client) (number place : ℕ) (r : ReplyModel) : Type 0 where
  pub last : Latest
  pub found : latest client n.replica.log ≡ Some last
  pub number_is : last.request_number ≡ number
  pub place_is : last.op_number ≡ place
  pub reply_is : slice_get (replies_at n.executed) (place - 1) ≡ Some r

-- a request is done only so
done_by : (n : MemoryNode) (client : Client) (number place : ℕ) (r : ReplyModel) → outcome_of n client number ≡
    done place r → IsDoneBy n client number place r
done_by n client number place r = go (latest client n.replica.log) refl
  where
    at : (l : Latest) → latest client n.replica.log ≡ Some l → l.request_number ≡ number → (o : Option ReplyModel) →
        slice_get (replies_at n.executed) (l.op_number - 1) ≡ o → outcome_at n l.op_number o ≡ done place r →
        IsDoneBy n client number place r
    at l e same (Some x) f h =
        let here : l.op_number ≡ place = cc in
        let this : x ≡ r = cc in
        record {
          last = l;
          found = e;
          number_is = same;
          place_is = here;
          reply_is =
              ap (λ (k : ℕ). slice_get (replies_at n.executed) (k - 1)) (sym here) ∙ f ∙ ap (λ (y : ReplyModel). Some y)
              this;
        }
    at l e same None f h = absurd (neither (not n.is_halted && leads n.count n.index n.replica n.replica.view_number) h)
      where
        neither : (b : Bool) → cond b pending lost ≡ done place r → ⊥
        neither true g = pending_not_done place r g
        neither false g = lost_not_done place r g

    by : (l : Latest) → latest client n.replica.log ≡ Some l → (a b : Bool) → (l.request_number == number) ≡ b
        → cond a stale (cond b (outcome_at n l.op_number (slice_get (replies_at n.executed) (l.op_number - 1)))
        lost) ≡ done place r → IsDoneBy n client number place r
    by l e true b same h = absurd (stale_not_done place r h)
    by l e false true same h = at l e (eqb-true l.request_number number same) (slice_get (replies_at n.executed)
        (l.op_number - 1)) refl h
    by l e false false same h = absurd (lost_not_done place r h)

    go : (o : Option Latest) → latest client n.replica.log ≡ o → outcome_by n number o ≡ done place r →
        IsDoneBy n client number place r
    go None e h = absurd (lost_not_done place r h)
    go (Some l) e h = by l e (nat_lt number l.request_number) (l.request_number == number) refl h

-- two numbers, the first not below the second, and not the second
above : (a b : ℕ) → nat_lt a b ≡ false → (b == a) ≡ false → b < a
above a b low apart = go (nat_lt b a) refl
  where
    go : (t : Bool) → nat_lt b a ≡ t → b < a
    go true e = ltb-true b a e
    go false e = absurd (true≢false (sym (eq-eqb b a (omega (arith, ltb-false a b low, ltb-false b a e))) ∙ apart))

-- What a node says of a request is by its client table.
by_table : (n : MemoryNode) → n.is_halted ≡ false → (client : Client) (number : ℕ) → IsByTable n.count n.index
    n.replica client number (outcome_of n client number)
by_table n runs client number = go (latest client n.replica.log) refl
  where
    Says : OutcomeValue → Type 0
    Says v = IsByTable n.count n.index n.replica client number v

    leading : Bool
    leading = leads n.count n.index n.replica n.replica.view_number

    at : (l : Latest) → latest client n.replica.log ≡ Some l → l.request_number ≡ number → (o : Option ReplyModel) →
        Says (outcome_at n l.op_number o)
    at l e same (Some x) = (l, e, same, refl)
    at l e same None = subst (λ b. Says (cond b pending lost)) (sym (ap (λ b. not b && leading) runs))
        (lead leading refl)
      where
        lead : (b : Bool) → leading ≡ b → Says (cond b pending lost)
        lead true f = (l, e, same, f)
        lead false f = inr (l, e, inr (same, f))

    by : (l : Latest) → latest client n.replica.log ≡ Some l → (a b : Bool) → nat_lt number l.request_number ≡ a →
        (l.request_number == number) ≡ b
        → Says (cond a stale (cond b (outcome_at n l.op_number (slice_get (replies_at n.executed) (l.op_number - 1)))
        lost))
    by l e true b later same = (l, e, ltb-true number l.request_number later)
    by l e false true later same = at l e (eqb-true l.request_number number same) (slice_get (replies_at n.executed)
        (l.op_number - 1))
    by l e false false later same = inr (l, e, inl (above number l.request_number later same))

    go : (o : Option Latest) → latest client n.replica.log ≡ o → Says (outcome_by n number o)
    go None e = inl e
    go (Some l) e = by l e (nat_lt number l.request_number) (l.request_number == number) refl refl

module _ (m : Machine) (w : World OpValue) (i : ℕ) where
  -- what a node says of a request, as its replica in the world
  by_replica : (n : MemoryNode) → IsUp m w i n → (client : Client) (number : ℕ) (v : OutcomeValue) →
      v ≡ outcome_of n client number → IsByReplica m.count i w client number v
  by_replica n u client number v is = record {
    replica = n.replica;
    there = u.replica;
    by =
        subst (λ (k : ℕ). IsByTable k i n.replica client number v) u.count
        (subst (λ (k : ℕ). IsByTable n.count k n.replica client number v) u.index
        (subst (λ (x : OutcomeValue). IsByTable n.count n.index n.replica client number x) (sym is)
        (by_table n u.running client number)));
  }

  -- how far a node is, as its replica in the world
  far : (n : MemoryNode) → IsUp m w i n → reply.Standing i n.replica.view_number (standing_of n)
      (length n.replica.log) n.replica.commit_number
      ≡ reply.Standing i n.replica.view_number (standing_by i (primary m.count n.replica.view_number)
      n.replica.status) (length n.replica.log) n.replica.commit_number
  far n u = ap (λ (st : Standing). reply.Standing i n.replica.view_number st (length n.replica.log)
      n.replica.commit_number)
      (ap (λ b. cond b Recovering (standing_by n.index (primary n.count n.replica.view_number) n.replica.status))
      u.running
      ∙ ap (λ (k : ℕ). standing_by k (primary n.count n.replica.view_number) n.replica.status) u.index
      ∙ ap (λ (k : ℕ). standing_by i (primary k n.replica.view_number) n.replica.status) u.count)

  -- What is shown of how far a process is.
  pub told_on : (shown : List MachineReply) (p : Process) (x : MachineReply) → StandsFor m w i (stage shown i) p →
      IsToldOf i p x
      → MayHappen (arc_value m.schema) m.suffix m.cluster m.count m.journaled shown (event.State i) x [] w × IsQuiet x
  told_on shown (Up n f) x stands is =
      subst (λ (y : MachineReply). MayHappen (arc_value m.schema) m.suffix m.cluster m.count m.journaled shown
      (event.State i) y
      [] w × IsQuiet y) (sym is) (
        (refl, record { replica = n.replica; there = stands.1.replica; shown = far n stands.1 }),
        record {
          stages =
              λ j s. refl;
          silent = λ part at y h. absurd (cc);
        },
      )
  told_on shown (Down image) reply.Nothing stands is =
      ((refl, inr (down_not_up stands.0)), record { stages = λ j s. refl; silent = λ part at y h. absurd (cc) })
  told_on shown (Unborn image) reply.Nothing stands is =
      ((refl, inr (unborn_not_up stands.0)), record { stages = λ j s. refl; silent = λ part at y h. absurd (cc) })
  told_on shown _ _ stands is = absurd is

module _ (m : Machine) (size : IsSize m.count) (w : World OpValue) (i : ℕ) (reached : IsReached m.count w)
    (law : LatestIsOfClient OpValue) where
  -- what is committed
  abbrev all : List (LogEntry OpValue)
  all = committed m.count w.messages

  -- a request that a node calls done is in what is committed
  done_in : (n : MemoryNode) → IsUp m w i n → (client : Client) (number place : ℕ) (r : ReplyModel) →
      outcome_of n client number ≡ done place r
      → IsMadeIn (arc_value m.schema) m.suffix all client number place r
  done_in n u client number place r is = record {
    entry = named.entry;
    at = record {
      front = named.at.front;
      within = prefix_trans (prefix_shorter named.at.within in_log short) in_all;
      op_number = named.at.op_number ∙ by.place_is;
    };
    client_is = named.client;
    number_is = named.request_number ∙ by.number_is;
    reply_is = reply_stays (arc_value m.schema) m.suffix n.executed.records all (place - 1) r in_all
        (ap (λ (s : SchemaModel). slice_get (replies_of s m.suffix (ops_of n.executed.records)) (place - 1))
        (sym u.schema)
        ∙ ap (λ (root : List RdnModel). slice_get (replies_of n.executed.schema root (ops_of n.executed.records))
        (place - 1)) (sym u.suffix)
        ∙ by.reply_is);
  }
    where
      by : IsDoneBy n client number place r
      by = done_by n client number place r is

      named : IsNamedIn (record {
        client = client;
        request_number = by.last.request_number;
        op_number =
            by.last.op_number;
      }) n.replica.log
      named = law client n.replica.log by.last by.found

      in_log : IsPrefix n.executed.records n.replica.log
      in_log = prefix_trans u.executed (prefix_take n.replica.commit_number n.replica.log)

      in_all : IsPrefix n.executed.records all
      in_all = prefix_trans u.executed (begins_committed m.count size w i n.replica reached u.replica)

      within : place - 1 < length n.executed.records
      within =
          let lt : place - 1 < length (replies_at n.executed) = slice_get_within (replies_at n.executed) (place - 1) r
          by.reply_is in
          omega (
            arith,
            lt,
            replies_length (empty_directory n.executed.schema n.executed.suffix) 0 (ops_of
                n.executed.records),
            ops_length n.executed.records,
          )

      short : length (named.at.front ++ named.entry ∷ []) ≤ length n.executed.records
      short = omega (arith, within, length-append named.at.front (named.entry ∷ []), named.at.op_number, by.place_is)

  done_or : (n : MemoryNode) → IsUp m w i n → (client : Client) (number : ℕ) (v : OutcomeValue) →
      outcome_of n client number ≡ v → IsDoneIn (arc_value m.schema) m.suffix all client number v
  done_or n u client number (done place r) is = done_in n u client number place r is
  done_or n u client number pending is = tt
  done_or n u client number stale is = tt
  done_or n u client number lost is = tt

  -- What is shown of a client's request at a process.
  pub answered_on : (shown : List MachineReply) (client : Client) (number : ℕ) (p : Process) (x : MachineReply) →
      StandsFor m w i (stage shown i) p → IsAnswered i client number p x
      → MayHappen (arc_value m.schema) m.suffix m.cluster m.count m.journaled shown (event.Ask i client number) x [] w
      × IsQuiet x
  answered_on shown client number (Up n f) (reply.Outcome j o) stands is = (
    (
      is.0,
      refl,
      by_replica m w i n stands.1 client number (became_view
          o) is.1,
      done_or n stands.1 client number (became_view o) (sym is.1),
    ),
    record { stages = λ j s. refl; silent = λ part at y h. absurd (cc) },
  )
  answered_on shown client number (Down image) reply.Nothing stands is =
      ((refl, inr (down_not_up stands.0)), record { stages = λ j s. refl; silent = λ part at y h. absurd (cc) })
  answered_on shown client number (Unborn image) reply.Nothing stands is =
      ((refl, inr (unborn_not_up stands.0)), record { stages = λ j s. refl; silent = λ part at y h. absurd (cc) })
  answered_on shown client number _ _ stands is = absurd is
