-- What a process stands for after it started.
use Rattle.std.proofs.Common.{◌≡◌, ℕ, ◌+◌, ◌<◌, ◌≤◌, ◌==◌, min, cond, Bool, true, false, ◌⊎◌, inl, inr, List, [], ◌∷◌, take, Option, Some, None, is_some, Vec, slice_get, refl, sym, ap, ◌∙◌, subst, arith, eqb-true, true≢false}
use Rattle.std.specs.Global.{Global}
use Rattle.dir_node.specs.NodeState.{given as gives}
use Rattle.dir_node.specs.Restarting.{Restart, change_of, resumed}
use Rattle.dir_node.specs.log_journal.Batches.{OneIsTold}
use Rattle.dir_node.specs.log_journal.Told.{Told, Tells, nothing_told}
use Rattle.dir_node.specs.log_journal.vr_recover.Rules.{recovers}
use Rattle.journal.specs.Frames.{recorded}
use Rattle.state_machine.specs.dir_store.ldap_op.Values.{OpValue}
use Rattle.view_store.specs.Slots.{IsWellPlaced, found, own}
use Rattle.view_store.specs.declared.slot.Pair.{Pair}
use Rattle.vr_state.proofs.Laws.{either_true, prefix_nil}
use Rattle.vr_state.specs.Lists.{IsPrefix}
use Rattle.vr_state.specs.Outcome.{Outcome, idle, to_all}
use Rattle.vr_state.specs.State.{State, first, is_recovering, recovering, resuming}
use Rattle.vr_state.specs.Words.{LogEntry}
use Rattle.vr_state.specs.declared.message.Outputs.{Outputs}
use Rattle.vr_state.specs.declared.message.PeerMessage.TheVariants.{Recovery}
use Rattle.vr_state.specs.declared.message.Send.{Send}
use Rattle.vr_state.specs.declared.words.Status.TheVariants.{Normal, ViewChange}
use Rattle.vr_world.specs.World.{World, answered, happens, has_used, posted, sent_as}
use Rattle.vr_world.specs.declared.events.WorldEvent.{WorldEvent}
use Rattle.vr_world.specs.declared.events.WorldEvent.TheVariants.{Recover, Resume}
use Rattle.vr_world.specs.declared.words.Message.{Message}
use Rattle.dir_machine.proofs.Gives.{Acted, stage_apart, stage_own}
use Rattle.dir_machine.proofs.Returns.{notes_left}
use Rattle.dir_machine.proofs.Worlds.{IsLater, later_refl, made_later, posted_has, put_here, put_there, recovered_is, recovered_with, resumed_is, resumed_with}
use Rattle.dir_machine.specs.Happening.{GoesOnOver, StartsAgain, StartsFirst}
use Rattle.dir_machine.specs.Shown.{Stage, up, down, stopped, message_by, message_of, stage}
use Rattle.dir_machine.specs.private.Processes.{IsBorn, IsLeftByStart, IsLogLeft, IsPairLeft, IsPlaced, IsRefusal, IsStartOver, IsStarted, MemoryNode, StartsOver, alone, owner}
use Rattle.dir_machine.specs.private.Running.{AreUpTo, HasKept, IsDown, IsKeptBy, IsLogOf, IsUnborn, IsUp, StandsFor}
use Rattle.dir_machine.specs.declared.events.Fates.{Fates}
use Rattle.dir_machine.specs.declared.machine.Machine.{Machine}
use Rattle.dir_machine.specs.declared.process.Left.{Left}
use Rattle.dir_machine.specs.declared.process.Process.{Process}
use Rattle.dir_machine.specs.declared.process.Process.TheVariants.{Unborn, Up, Down}
use Rattle.dir_machine.specs.declared.replies.MachineReply.{MachineReply}
use Rattle.dir_machine.specs.declared.replies.MachineReply.TheVariants as reply

-- a nonce that is used after one more was: that one, or one that was used
used_more : (x y : ℕ) (l : List ℕ) → has_used y (x ∷ l) ≡ true → (x ≡ y) ⊎ (has_used y l ≡ true)
used_more x y l h = go (either_true (x == y) (has_used y l) h)
  where
    go : ((x == y) ≡ true) ⊎ (has_used y l ≡ true) → (x ≡ y) ⊎ (has_used y l ≡ true)
    go (inl e) = inl (eqb-true x y e)
    go (inr e) = inr e

-- a number above all that were used is new
is_new : (x most : ℕ) (l : List ℕ) → ((y : ℕ) → has_used y l ≡ true → y ≤ most) → most < x → has_used x l ≡ false
is_new x most l h above = go (has_used x l) refl
  where
    go : (b : Bool) → has_used x l ≡ b → has_used x l ≡ false
    go true e = let le : x ≤ most = h x e in absurd (omega (arith, le, above))
    go false e = e

module _ (m : Machine) (w : World OpValue) (i : ℕ) (lt : i < m.count) (shown : List MachineReply) where
  -- what may happen where replica i's process is to start
  abbrev pub MayStart : MachineReply → List (WorldEvent OpValue) → Type 0
  MayStart reply.Nothing h = (h ≡ []) × (stage shown i ≡ up)
  MayStart (reply.Started j restarts out) h = (j ≡ i) × (StartsFirst shown i restarts out h
      ⊎ StartsAgain m.count m.journaled shown i restarts out h w ⊎ GoesOnOver m.count m.journaled shown i out h w)
  MayStart (reply.Refused j e) h = (j ≡ i) × (h ≡ [])
  MayStart (reply.Stopped j e) h = (j ≡ i) × (h ≡ [])
  MayStart _ h = ⊥

  -- the first start
  first_up : (n : MemoryNode) → IsUnborn m w i → IsBorn m i (first m.count) 1 n → IsPlaced n.device →
      is_some n.journal ≡ m.journaled → IsUp m w i n
  first_up n u b placed journaled = record {
    index = b.index;
    count = b.count;
    cluster = b.cluster;
    running = b.running;
    replica = u.replica ∙ ap (λ (r : State OpValue). Some r) (sym b.replica);
    stored = u.stored ∙ ap (λ (r : State OpValue). r.view_number) (sym b.replica);
    nonces = λ x h. let le : x ≤ 0 = u.nonces x h in omega (arith, le);
    schema = b.schema;
    suffix = b.suffix;
    executed = subst (λ (l : List (LogEntry OpValue)). IsPrefix l (take n.replica.commit_number n.replica.log))
        (sym b.records) (prefix_nil (take n.replica.commit_number n.replica.log));
    pair = b.pair;
    log = b.log;
    journaled = journaled;
    active = λ kept. ap (λ (r : State OpValue). is_recovering r.status) b.replica;
    started = omega (arith, b.restarts_is);
    placed = placed;
  }

  -- a replica that goes on doesn't recover
  goes_active : (b : Bool) → is_recovering (cond b Normal ViewChange) ≡ false
  goes_active true = refl
  goes_active false = refl

  -- no message is among none
  none_of : (j : ℕ) (out : Outputs OpValue) (at : ℕ) (y : Message OpValue) → out.sends.items ≡ [] →
      message_of j out at ≡ Some y → ⊥
  none_of j out at y e h = let none : message_by j None ≡ Some y = ap (λ (l : List (Send OpValue)). message_by j
      (slice_get l at)) (sym e) ∙ h in absurd (cc)

  -- a later start at which the replica recovers
  module _ (n : MemoryNode) (out : Outputs OpValue) (restarts view x most : ℕ) (down_is : w.replicas i ≡ None)
      (stored_is : w.stored i ≡ view) (nonces_are : AreUpTo w i most) (above : most < x)
      (b : IsBorn m i (recovering m.count view x) x n) (is : restarts ≡ n.restarts) (sends : gives n.replica out ≡
      recovers m.count i view x) (alone_is : m.journaled ≡ false) (journaled_is : is_some n.journal ≡ m.journaled)
    where
      -- the numbers are one
      nonce : x ≡ restarts
      nonce = sym (is ∙ b.restarts_is)

      -- the world after it
      to : happens m.count w (Recover i restarts) ≡ recovered_with m.count i restarts w
      to = recovered_is m.count i restarts w lt down_is (is_new restarts most (w.nonces i) nonces_are
          (omega (arith, nonce, above)))

      -- what it sends
      sent_is : out.sends.items ≡ to_all m.count i (Recovery restarts)
      sent_is = ap (λ (o : Outcome OpValue). o.sends) sends ∙ ap (λ (y : ℕ). to_all m.count i (Recovery y)) nonce

      -- its state
      state_is : n.replica ≡ recovering m.count (w.stored i) restarts
      state_is = b.replica ∙ ap (λ (y : ℕ). recovering m.count y x) (sym stored_is)
          ∙ ap (λ (y : ℕ). recovering m.count (w.stored i) y) nonce

      again_later : IsLater w (happens m.count w (Recover i restarts)) i
      again_later = subst (λ (u : World OpValue). IsLater w u i) (sym to) (record {
        others = λ j ne. record {
          replica = put_there i j (Some (recovering m.count (w.stored i) restarts)) w.replicas ne;
          stored = put_there i j (w.stored i) w.stored ne;
          kept = refl;
          nonces = put_there i j (restarts ∷ w.nonces i) w.nonces ne;
        };
        sent = (made_later i (record {
          state = recovering m.count (w.stored i) restarts;
          sends = to_all m.count i
              (Recovery restarts);
          replies = [];
        }) w).sent;
      })

      again_messages : (happens m.count w (Recover i restarts)).messages ≡ posted i out.sends.items w.messages
      again_messages = ap (λ (u : World OpValue). u.messages) to
          ∙ ap (λ (l : List (Send OpValue)). posted i l w.messages) (sym sent_is)

      again_may : stage shown i ≡ down → StartsAgain m.count m.journaled shown i restarts out
          (Recover i restarts ∷ []) w
      again_may s = record {
        alone = alone_is;
        again = s;
        gives = record {
          sends = again_messages;
          replies = ap (λ (u : World OpValue). u.replies) to
              ∙ ap (λ (o : Outcome OpValue). answered i o.replies w.replies) (sym sends);
        };
        one = refl;
      }

      again_nonces : AreUpTo (happens m.count w (Recover i restarts)) i n.restarts
      again_nonces y h = go (used_more restarts y (w.nonces i)
          (ap (λ l. has_used y l) (sym (ap (λ (u : World OpValue). u.nonces i) to ∙ put_here i (restarts ∷ w.nonces i)
          w.nonces)) ∙ h))
        where
          go : (restarts ≡ y) ⊎ (has_used y (w.nonces i) ≡ true) → y ≤ n.restarts
          go (inl e) = omega (arith, e, is)
          go (inr e) = let le : y ≤ most = nonces_are y e in omega (arith, le, is, nonce, above)

      again_up : IsPlaced n.device → IsUp m (happens m.count w (Recover i restarts)) i n
      again_up placed = record {
        index = b.index;
        count = b.count;
        cluster = b.cluster;
        running = b.running;
        replica = ap (λ (u : World OpValue). u.replicas i) to
            ∙ put_here i (Some (recovering m.count (w.stored i) restarts)) w.replicas
            ∙ ap (λ (r : State OpValue). Some r) (sym state_is);
        stored = ap (λ (u : World OpValue). u.stored i) to ∙ put_here i (w.stored i) w.stored
            ∙ ap (λ (r : State OpValue). r.view_number) (sym state_is);
        nonces = again_nonces;
        schema = b.schema;
        suffix = b.suffix;
        executed = subst (λ (l : List (LogEntry OpValue)). IsPrefix l (take n.replica.commit_number n.replica.log))
            (sym b.records) (prefix_nil (take n.replica.commit_number n.replica.log));
        pair = b.pair;
        log = b.log;
        journaled = journaled_is;
        active = λ kept. absurd (true≢false (sym kept ∙ alone_is));
        started = omega (arith, b.restarts_is, above);
        placed = placed;
      }

      -- what it gives out was sent
      again_sent : (j at : ℕ) (y : Message OpValue) → j ≡ i → message_of j out at ≡ Some y → (k : ℕ)
          × (sent_as k (happens m.count w (Recover i restarts)).messages ≡ Some y)
      again_sent j at y e = go (slice_get out.sends.items at) refl
        where
          go : (o : Option (Send OpValue)) → slice_get out.sends.items at ≡ o → message_by j o ≡ Some y → (k : ℕ)
              × (sent_as k (happens m.count w (Recover i restarts)).messages ≡ Some y)
          go None f h = absurd (cc)
          go (Some s) f h =
              let k = posted_has i at out.sends.items w.messages s f in
              (k.0, ap (λ l. sent_as k.0 l) again_messages ∙ k.1 ∙ ap (λ (z : ℕ). message_by z (Some s)) (sym e) ∙ h)

      recovers_on : (j : ℕ) → j ≡ i → stage shown i ≡ down → (f : Fates) → IsPlaced n.device →
          Acted m w i shown (reply.Started j restarts out) (Up n f) (λ h. MayStart (reply.Started j restarts out) h)
      recovers_on j own_is was f placed = record {
        happened = Recover i restarts ∷ [];
        may = (own_is, inr (inl (again_may was)));
        moved = record {
          later = again_later;
          apart = λ k ne s. stage_apart i j k up s own_is ne;
          stands = (stage_own i j up (stage shown i) own_is, again_up placed);
          sent = λ part at y h. again_sent j at y own_is h;
        };
      }

  -- a later start at which the replica goes on from its journal
  module _ (n : MemoryNode) (out : Outputs OpValue) (restarts x most : ℕ) (t : Told) (k : HasKept w i t)
      (down_is : w.replicas i ≡ None) (nonces_are : AreUpTo w i most) (above : most < x)
      (b : IsBorn m i (resuming m.count t.kept.view t.kept.k (change_of t.kept)) x n) (is : restarts ≡ n.restarts)
      (sends : gives n.replica out ≡ idle (resuming m.count t.kept.view t.kept.k (change_of t.kept)))
      (over_is : m.journaled ≡ true) (journaled_is : is_some n.journal ≡ m.journaled) where
    -- a replica that goes on, by what is kept of it
    abbrev gone_on : ℕ → ℕ → List (LogEntry OpValue) → ℕ → State OpValue
    gone_on view last log many = record (first m.count) {
      view_number = view;
      status = cond (last == view) Normal
          ViewChange;
      last_normal_view = last;
      log = log;
      commit_number = many;
    }

    state_on : n.replica ≡ resuming m.count (w.stored i) t.kept.k k.change
    state_on = b.replica ∙ (λ z. gone_on (sym k.stored z) (sym k.last z) (sym k.log z) (same z))
      where
        same : min t.kept.k t.kept.k ≡ min t.kept.k k.change.commit_number
        same = omega (arith, k.low)

    to_on : happens m.count w (Resume i t.kept.k) ≡ resumed_with m.count i t.kept.k k.change w
    to_on = resumed_is m.count i t.kept.k k.change w lt down_is k.kept

    none : out.sends.items ≡ []
    none = ap (λ (o : Outcome OpValue). o.sends) sends

    on_later : IsLater w (happens m.count w (Resume i t.kept.k)) i
    on_later = subst (λ (u : World OpValue). IsLater w u i) (sym to_on) (record {
      others = λ j ne. record {
        replica = put_there i j (Some (resuming m.count (w.stored i) t.kept.k k.change)) w.replicas ne;
        stored = put_there i j (w.stored i) w.stored ne;
        kept = put_there i j None w.kept ne;
        nonces = refl;
      };
      sent = λ a y h. h;
    })

    on_up : IsPlaced n.device → IsUp m (happens m.count w (Resume i t.kept.k)) i n
    on_up placed = record {
      index = b.index;
      count = b.count;
      cluster = b.cluster;
      running = b.running;
      replica = ap (λ (u : World OpValue). u.replicas i) to_on
          ∙ put_here i (Some (resuming m.count (w.stored i) t.kept.k k.change)) w.replicas
          ∙ ap (λ (r : State OpValue). Some r) (sym state_on);
      stored = ap (λ (u : World OpValue). u.stored i) to_on ∙ put_here i (w.stored i) w.stored
          ∙ ap (λ (r : State OpValue). r.view_number) (sym state_on);
      nonces = λ y h. let le : y ≤ most = nonces_are y (ap (λ (u : World OpValue). has_used y (u.nonces i))
          (sym to_on) ∙ h) in omega (arith, le, above, b.restarts_is);
      schema = b.schema;
      suffix = b.suffix;
      executed = subst (λ (l : List (LogEntry OpValue)). IsPrefix l (take n.replica.commit_number n.replica.log))
          (sym b.records) (prefix_nil (take n.replica.commit_number n.replica.log));
      pair = b.pair;
      log = b.log;
      journaled = journaled_is;
      active = λ kept. ap (λ (r : State OpValue). is_recovering r.status) b.replica
          ∙ goes_active (t.kept.last == t.kept.view);
      started = omega (arith, b.restarts_is, above);
      placed = placed;
    }

    goes_on_so : (j : ℕ) → j ≡ i → stage shown i ≡ down → (f : Fates) → IsPlaced n.device →
        Acted m w i shown (reply.Started j restarts out) (Up n f) (λ h. MayStart (reply.Started j restarts out) h)
    goes_on_so j own_is was f placed = record {
      happened = Resume i t.kept.k ∷ [];
      may = (
        own_is,
        inr (inr (record {
          over = over_is;
          again = was;
          kept = k.change;
          is_kept = k.kept;
          many = t.kept.k;
          low = k.low;
          gives = record {
            sends = ap (λ (u : World OpValue). u.messages) to_on
                ∙ ap (λ (l : List (Send OpValue)). posted i l w.messages) (sym none);
            replies = ap (λ (u : World OpValue). u.replies) to_on
                ∙ ap (λ (o : Outcome OpValue). answered i o.replies w.replies) (sym sends);
          };
          one = refl;
        })),
      );
      moved = record {
        later = on_later;
        apart = λ a ne s. stage_apart i j a up s own_is ne;
        stands = (stage_own i j up (stage shown i) own_is, on_up placed);
        sent = λ part at y h. absurd (none_of j out at y none h);
      };
    }

  -- a later start
  over_on : OneIsTold → (left : Left) (n : MemoryNode) (f : Fates) (out : Outputs OpValue) (j restarts : ℕ) → j ≡ i →
      restarts ≡ n.restarts → stage shown i ≡ down → IsDown m w i left → (so : StartsOver m i left n out) →
      IsPlaced n.device
      → Acted m w i shown (reply.Started j restarts out) (Up n f) (λ h. MayStart (reply.Started j restarts out) h)
  over_on one left n f out j restarts own_is is was d so placed = go left.journal d.journaled so.is d.kept
    where
      same : d.pair ≡ so.pair
      same = cc (d.found_is, so.found_is)

      born : (s : Restart) → so.start ≡ s → IsBorn m i s.outcome.state s.pair.restarts n
      born s e = subst (λ (r : Restart). IsBorn m i r.outcome.state r.pair.restarts n) e so.born

      given_is : (s : Restart) → so.start ≡ s → gives n.replica out ≡ s.outcome
      given_is s e = subst (λ (r : Restart). gives n.replica out ≡ r.outcome) e so.gives

      view_is : w.stored i ≡ d.pair.view → w.stored i ≡ so.pair.view
      view_is e = e ∙ ap (λ (p : Pair). p.view) same

      journaled : is_some n.journal ≡ m.journaled
      journaled = so.journaled ∙ d.journaled

      go : (o : Option (Vec ℕ Global)) → is_some o ≡ m.journaled → IsStartOver (owner m i) so.pair o so.start →
          IsKeptBy w i d.pair.view o → Acted m w i shown (reply.Started j restarts out) (Up n f)
          (λ h. MayStart (reply.Started j restarts out) h)
      go None keeps e kept =
          recovers_on n out restarts so.pair.view (so.pair.restarts + 1) d.pair.restarts d.down (view_is kept)
          d.nonces (omega (arith, ap (λ (p : Pair). p.restarts) same)) (born (alone (owner m i) so.pair) e) is
          (given_is (alone (owner m i) so.pair) e)
          (sym keeps) journaled j own_is was f placed
      go (Some octets) keeps (inl b) kept =
          absurd (true≢false (sym (kept nothing_told (subst (λ (l : List (List ℕ)). Tells nothing_told l nothing_told)
          (sym b.empty) refl)).whole))
      go (Some octets) keeps (inr (inl b)) kept = absurd (true≢false (sym (kept b.told b.tells).whole ∙ b.lost))
      go (Some octets) keeps (inr (inr b)) kept =
          goes_on_so n out restarts (so.pair.restarts + 1) d.pair.restarts b.told (kept b.told b.tells).has d.down
          d.nonces (omega (arith, ap (λ (p : Pair). p.restarts) same))
          (born (resumed (owner m i) so.pair b.told) b.is) is (given_is (resumed (owner m i) so.pair b.told) b.is)
          (sym keeps) journaled j own_is was f placed

  -- A start that was refused leaves the process down.
  left_down : OneIsTold → (old new : Left) → IsDown m w i old → IsLeftByStart m i old new → IsDown m w i new
  left_down one old new d left = by left.pair
    where
      -- what is kept, by the view of the pair that is there then
      kept_left : (view : ℕ) → IsKeptBy w i view old.journal → (o p : Option (Vec ℕ Global)) → old.journal ≡ o →
          new.journal ≡ p → IsLogLeft m i old o p → IsKeptBy w i view p
      kept_left view h None None e f l = subst (λ (x : Option (Vec ℕ Global)). IsKeptBy w i view x) e h
      kept_left view h (Some a) (Some b) e f (inl same) = subst (λ (l : List (List ℕ)). IsLogOf w i l) (sym same)
          (subst (λ (x : Option (Vec ℕ Global)). IsKeptBy w i view x) e h)
      kept_left view h (Some a) (Some b) e f (inr (pair, start, found_is, is, begun)) =
          notes_left one w i (owner m i) pair (recorded a.items) start b.items is
          (subst (λ (x : Option (Vec ℕ Global)). IsKeptBy w i view x) e h) begun
      kept_left view h None (Some b) e f l = absurd l
      kept_left view h (Some a) None e f l = absurd l

      -- there is a journal as there was
      there_is : (o p : Option (Vec ℕ Global)) → IsLogLeft m i old o p → is_some p ≡ is_some o
      there_is None None l = refl
      there_is (Some a) (Some b) l = refl
      there_is None (Some b) l = absurd l
      there_is (Some a) None l = absurd l

      journaled : is_some new.journal ≡ m.journaled
      journaled = there_is old.journal new.journal left.log ∙ d.journaled

      kept_at : (view : ℕ) → IsKeptBy w i view old.journal → IsKeptBy w i view new.journal
      kept_at view h = kept_left view h old.journal new.journal refl refl left.log

      -- the view of a start over a journal, or over none
      view_at : (pair : Pair) (start : Restart) → d.pair ≡ pair → (o : Option (Vec ℕ Global)) →
          IsStartOver (owner m i) pair o start → IsKeptBy w i d.pair.view o → IsKeptBy w i start.pair.view o
      view_at pair start same None is h = h ∙ ap (λ (p : Pair). p.view) same
          ∙ sym (ap (λ (s : Restart). s.pair.view) is)
      view_at pair start same (Some octets) is h = h

      more_at : (pair : Pair) (start : Restart) → d.pair ≡ pair → (o : Option (Vec ℕ Global)) →
          IsStartOver (owner m i) pair o start → d.pair.restarts ≤ start.pair.restarts
      more_at pair start same None is = omega (
        arith,
        ap (λ (p : Pair). p.restarts) same,
        ap (λ (s : Restart).
            s.pair.restarts) is,
      )
      more_at pair start same (Some octets) (inl b) =
          omega (arith, ap (λ (p : Pair). p.restarts) same, ap (λ (s : Restart). s.pair.restarts) b.is)
      more_at pair start same (Some octets) (inr (inl b)) =
          omega (arith, ap (λ (p : Pair). p.restarts) same, ap (λ (s : Restart). s.pair.restarts) b.is)
      more_at pair start same (Some octets) (inr (inr b)) =
          omega (arith, ap (λ (p : Pair). p.restarts) same, ap (λ (s : Restart). s.pair.restarts) b.is)

      by : IsPairLeft m i old new → IsDown m w i new
      by (inl same) = record {
        pair = d.pair;
        found_is = ap (λ (l : List ℕ). found m.cluster l) same ∙ d.found_is;
        down = d.down;
        journaled = journaled;
        kept = kept_at d.pair.view d.kept;
        nonces = d.nonces;
        placed = subst IsWellPlaced (sym same) d.placed;
      }
      by (inr (pair, start, found_is, is, image)) = go image.pair
        where
          same : d.pair ≡ pair
          same = cc (d.found_is, found_is)

          go : (found m.cluster new.image.items ≡ own pair) ⊎ (found m.cluster new.image.items ≡ own start.pair) →
              IsDown m w i new
          go (inl former) = record {
            pair = d.pair;
            found_is = former ∙ ap (λ (p : Pair). own p) (sym same);
            down = d.down;
            journaled = journaled;
            kept = kept_at d.pair.view d.kept;
            nonces = d.nonces;
            placed = image.placed;
          }
          go (inr next) = record {
            pair = start.pair;
            found_is = next;
            down = d.down;
            journaled = journaled;
            kept = kept_at start.pair.view (view_at pair start same old.journal is d.kept);
            nonces = λ x h. let le : x ≤ d.pair.restarts = d.nonces x h in let up_to : d.pair.restarts ≤
                start.pair.restarts = more_at pair start same old.journal is in omega (arith, le, up_to);
            placed = image.placed;
          }

  -- nothing happens at a start that was refused
  refused_on : (old new : Process) (x : MachineReply) → IsRefusal i x → ((t : Stage) → stage shown i ≡ t →
      stopped t ≡ t → StandsFor m w i t old → StandsFor m w i t new)
      → (stopped (stage shown i) ≡ stage shown i) → StandsFor m w i (stage shown i) old →
      Acted m w i shown x new (λ h. MayStart x h)
  refused_on old new (reply.Refused j e) is goes stays stands = record {
    happened = [];
    may = (is, refl);
    moved = record {
      later = later_refl w i;
      apart = λ k ne s. refl;
      stands = goes (stage shown i) refl stays stands;
      sent = λ part at y h. absurd (cc);
    };
  }
  refused_on old new (reply.Stopped j e) is goes stays stands = record {
    happened = [];
    may = (is, refl);
    moved = record {
      later = later_refl w i;
      apart = λ k ne s. stage_apart i j k (stopped s) s is ne;
      stands = subst (λ (t : Stage). StandsFor m w i t new)
          (sym (stage_own i j (stopped (stage shown i)) (stage shown i) is ∙ stays)) (goes (stage shown i) refl stays
          stands);
      sent = λ part at y h. absurd (cc);
    };
  }
  refused_on old new _ is goes stays stands = absurd is

  -- Replica i's process starts.
  pub started_on : OneIsTold → (old new : Process) (x : MachineReply) → StandsFor m w i (stage shown i) old →
      IsStarted m i old new x → Acted m w i shown x new (λ h. MayStart x h)
  started_on one (Unborn old) (Up n f) (reply.Started j restarts out) stands is = record {
    happened = [];
    may = (
      is.0,
      inl (record {
        first = stands.0;
        restarts_is = is.1 ∙ is.2.restarts_is;
        sends = none;
        nothing =
            refl;
      }),
    );
    moved = record {
      later = later_refl w i;
      apart = λ k ne s. stage_apart i j k up s is.0 ne;
      stands = (stage_own i j up (stage shown i) is.0, first_up n stands.1 is.2 is.4 is.5);
      sent = λ part at y h. absurd (none_of j out at y none h);
    };
  }
    where
      none : out.sends.items ≡ []
      none = ap (λ (o : Outcome OpValue). o.sends) is.3
  started_on one (Unborn old) (Unborn new) x stands is = refused_on (Unborn old) (Unborn new) x is (λ t e s h. h)
      (ap stopped stands.0 ∙ sym stands.0) stands
  started_on one (Down left) (Up n f) (reply.Started j restarts out) stands is = over_on one left n f out j restarts
      is.0 is.1 stands.0 stands.1 is.2 (is.3 stands.1.placed)
  started_on one (Down old) (Down new) x stands is =
      refused_on (Down old) (Down new) x is.0
      (λ t e s h. (h.0, left_down one old new h.1 (is.1 h.1.placed h.1.pair h.1.found_is))) (ap stopped stands.0
      ∙ sym stands.0) stands
  started_on one (Up old f) (Up new g) reply.Nothing stands is = record {
    happened = [];
    may = (refl, stands.0);
    moved = record {
      later = later_refl w i;
      apart = λ k ne s. refl;
      stands =
          (stands.0, subst (λ (n : MemoryNode). IsUp m w i n) (sym is) stands.1);
      sent = λ part at y h. absurd (cc);
    };
  }
  started_on one _ _ _ stands is = absurd is
