-- What a node that was opened, or refused, is by its own clauses: a start of a process.
use Rattle.std.proofs.Common.{◌≡◌, ℕ, ◌+◌, true, false, inl, inr, List, [], length, Option, Some, None, is_some, Vec, refl, sym, ap, ◌∙◌, subst}
use Rattle.std.specs.Arc.{arc_value}
use Rattle.std.specs.Global.{Global}
use Rattle.dir_node.specs.Logged.{IsBegun, LeavesOnlyIn}
use Rattle.dir_node.specs.NodeState.{IsMade, IsOwn, StartLeaves, given as gives, started_pair}
use Rattle.dir_node.specs.Restarting.{IsRestart, IsRestarted, Restart, RestartLeaves, RestartNotes, owner_of}
use Rattle.dir_node.specs.declared.config.NodeConfig.{NodeConfig}
use Rattle.dir_node.specs.declared.owner.Owner.{Owner}
use Rattle.dir_node.specs.log_journal.vr_recover.Rules.{recovers}
use Rattle.journal.specs.Frames.{recorded}
use Rattle.journal.specs.Memory as journals
use Rattle.state_machine.specs.Executing.{ExecutedValue}
use Rattle.state_machine.specs.dir_store.ldap_op.Values.{OpValue}
use Rattle.view_store.specs.Device.{LeavesOnly}
use Rattle.view_store.specs.Memory.{LeftSince, MayLeave, MemoryModel, seen_after}
use Rattle.view_store.specs.Replay.{counts_now}
use Rattle.view_store.specs.Slots.{Finding, IsWellPlaced, foreign, found, nothing, own}
use Rattle.view_store.specs.Store.{IsFormerOrNew}
use Rattle.view_store.specs.declared.slot.Pair.{Pair}
use Rattle.vr_state.specs.State.{State, recovering}
use Rattle.vr_state.specs.declared.message.Outputs.{Outputs}
use Rattle.dir_machine.proofs.Journals.{IsLeftWith, log_now}
use Rattle.dir_machine.specs.private.Processes.{IsBorn, IsJournalLeft, IsLogLeft, IsPairLeft, IsPlaced, IsRefusal, IsStarted, KeepsIt, LogsIt, MemoryNode, alone, owner}
use Rattle.dir_machine.specs.declared.events.Fates.{Fates}
use Rattle.dir_machine.specs.declared.machine.Machine.{Machine}
use Rattle.dir_machine.specs.declared.process.Left.{Left}
use Rattle.dir_machine.specs.declared.process.Process.TheVariants.{Up, Down}
use Rattle.dir_machine.specs.declared.replies.MachineReply.{MachineReply}
use Rattle.dir_machine.specs.declared.replies.MachineReply.TheVariants as reply

-- A node that was made is born.
made_born : (m : Machine) (i : ℕ) (config : NodeConfig) (r : State OpValue) (restarts : ℕ) (n : MemoryNode) →
    arc_value config.schema ≡ arc_value m.schema → config.suffix ≡ m.suffix → config.cluster ≡ m.cluster →
    config.index ≡ i → config.count ≡ m.count
    → IsMade config r restarts n → KeepsIt n → LogsIt n → IsBorn m i r restarts n
made_born m i config r restarts n schema suffix cluster index count is_made pair log = record {
  index = is_made.index_is ∙ index;
  count = is_made.count_is ∙ count;
  cluster = is_made.cluster_is ∙ cluster;
  replica = is_made.replica_is;
  schema = ap (λ (e : ExecutedValue). e.schema) is_made.executed_is ∙ schema;
  suffix = ap (λ (e : ExecutedValue). e.suffix) is_made.executed_is ∙ suffix;
  records = ap (λ (e : ExecutedValue). e.records) is_made.executed_is;
  restarts_is = is_made.restarts_is;
  running = is_made.runs;
  pair = pair;
  log = log;
}

-- whose a journal is
abbrev owned : (cluster index count : ℕ) → Owner
owned cluster index count = record { cluster = cluster; index = index; count = count }

-- the pair that is a cluster's own
own_pair : (f : Finding) → IsOwn f → (p : Pair) × (f ≡ own p)
own_pair (own p) h = (p, refl)
own_pair nothing h = absurd h
own_pair foreign h = absurd h

-- What a device may hold after a call: what a crash may leave has what the call says of each moment.
pub left_now : (old new : MemoryModel) (P : List ℕ → Type 0) → LeavesOnly (λ (d : MemoryModel). length d.events)
    (λ (d : MemoryModel). LeftSince d.base d.events) old new P
    → (image : List ℕ) → MayLeave new.base new.events image → P image
left_now old new P any image left = any.each image (counts_now new.base new.events (length old.events) image any.later
    left)

-- so what a device gives, and what a crash may leave of it, is as stores leave it
pub placed_now : (old new : MemoryModel) (cluster : ℕ) (former : Finding) (pair : Pair) →
    IsWellPlaced (seen_after new.base new.events)
    → LeavesOnly (λ (d : MemoryModel). length d.events) (λ (d : MemoryModel). LeftSince d.base d.events) old new
    (IsFormerOrNew cluster former pair) → IsPlaced new
placed_now old new cluster former pair seen any = record {
  seen = seen;
  left = λ image left.
      (left_now old new (IsFormerOrNew cluster former pair) any image left).placed;
}

module _ (m : Machine) (i : ℕ) (config : NodeConfig) (schema : arc_value config.schema ≡ arc_value m.schema)
    (suffix : config.suffix ≡ m.suffix) (cluster : config.cluster ≡ m.cluster) (index : config.index ≡ i)
    (count : config.count ≡ m.count)
    (image : Vec ℕ Global) (device : MemoryModel) (device_is : device ≡ record {
      base = image.items;
      events =
          [];
      failures = 0;
    }) where
  -- what is found in the octets that were left
  same : found config.cluster (seen_after device.base device.events) ≡ found m.cluster image.items
  same = ap (λ (k : ℕ). found k (seen_after device.base device.events)) cluster
      ∙ ap (λ (d : MemoryModel). found m.cluster (seen_after d.base d.events)) device_is

  owner_same : owner_of config ≡ owner m i
  owner_same = ap (λ (k : ℕ). owned k config.index config.count) cluster
      ∙ ap (λ (k : ℕ). owned m.cluster k config.count) index ∙ ap (λ (k : ℕ). owned m.cluster i k) count

  -- octets as stores leave them
  held : IsWellPlaced image.items → IsWellPlaced (seen_after device.base device.events)
  held h = subst (λ (d : MemoryModel). IsWellPlaced (seen_after d.base d.events)) (sym device_is) h

  -- A start without a journal, as a node's own clauses say it.
  pub alone_started : (n : MemoryNode) (out : Outputs OpValue) (restarts : ℕ) (fates : Fates) →
      IsOwn (found config.cluster (seen_after device.base device.events))
      → IsMade config (recovering config.count
      (started_pair (found config.cluster (seen_after device.base device.events))).view
      (started_pair (found config.cluster (seen_after device.base device.events))).restarts)
      (started_pair (found config.cluster (seen_after device.base device.events))).restarts n
      → gives n.replica out ≡ recovers config.count config.index
      (started_pair (found config.cluster (seen_after device.base device.events))).view
      (started_pair (found config.cluster (seen_after device.base device.events))).restarts
      → KeepsIt n → LogsIt n → is_some n.journal ≡ false → restarts ≡ n.restarts →
      (IsWellPlaced (seen_after device.base device.events) → IsPlaced n.device)
      → IsStarted m i (Down (record { image = image; journal = None })) (Up n fates) (reply.Started i restarts out)
  alone_started n out restarts fates owned_is made sends keeps logs journaled restarts_is placed =
      go (own_pair (found config.cluster (seen_after device.base device.events)) owned_is)
    where
      go : (p : Pair) × (found config.cluster (seen_after device.base device.events) ≡ own p) →
          IsStarted m i (Down (record { image = image; journal = None })) (Up n fates) (reply.Started i restarts out)
      go (p, e) = (
        refl,
        restarts_is,
        record {
          pair = p;
          found_is = sym same ∙ e;
          start = alone (owner m i) p;
          is = refl;
          born = made_born m i config (recovering m.count p.view (p.restarts + 1)) (p.restarts + 1) n schema suffix
              cluster index count
              (subst (λ (k : ℕ). IsMade config (recovering k p.view (p.restarts + 1)) (p.restarts + 1) n) count
              (subst (λ (f : Finding). IsMade config (recovering config.count (started_pair f).view
              (started_pair f).restarts) (started_pair f).restarts n) e made)) keeps logs;
          journaled = journaled;
          gives = sends ∙ ap (λ (f : Finding). recovers config.count config.index (started_pair f).view
              (started_pair f).restarts) e ∙ ap (λ (k : ℕ). recovers k config.index p.view (p.restarts + 1)) count
              ∙ ap (λ (k : ℕ). recovers m.count k p.view (p.restarts + 1)) index;
        },
        λ h. placed (held h),
      )

  -- A start over a journal.
  pub over_started : (octets : Vec ℕ Global) (j : journals.MemoryModel) →
      j ≡ record { base = octets.items; events = []; failures = 0 } → (n : MemoryNode) (out : Outputs OpValue)
      (restarts : ℕ) (fates : Fates)
      → IsRestarted config (found config.cluster (seen_after device.base device.events))
      (recorded (journals.seen_after j.base j.events)) n out
      → KeepsIt n → LogsIt n → is_some n.journal ≡ true → restarts ≡ n.restarts →
      (IsWellPlaced (seen_after device.base device.events) → IsPlaced n.device)
      → IsStarted m i (Down (record { image = image; journal = Some octets })) (Up n fates)
      (reply.Started i restarts out)
  over_started octets j j_is n out restarts fates r keeps logs journaled restarts_is placed = (
    refl,
    restarts_is,
    record {
      pair = r.former;
      found_is = sym same ∙ r.found;
      start = r.start;
      is = subst (λ (o : Owner). IsRestart o r.former (recorded octets.items) r.start) owner_same
          (subst (λ (x : journals.MemoryModel). IsRestart (owner_of config) r.former
          (recorded (journals.seen_after x.base x.events)) r.start) j_is r.is);
      born = made_born m i config r.start.outcome.state r.start.pair.restarts n schema suffix cluster index count
          r.made keeps logs;
      journaled = journaled;
      gives = r.sends;
    },
    λ h. placed (held h),
  )

  -- the pair after a start that was refused, without a journal
  pub alone_refused : (new : Vec ℕ Global) (d : MemoryModel) (x : MachineReply)
      → (IsWellPlaced (seen_after device.base device.events) → LeavesOnly (λ (e : MemoryModel). length e.events)
      (λ (e : MemoryModel). LeftSince e.base e.events) device d
      (StartLeaves (λ (e : MemoryModel). seen_after e.base e.events) (λ (e : MemoryModel). MayLeave e.base e.events)
      config.cluster device))
      → MayLeave d.base d.events new.items → IsRefusal i x →
      IsStarted m i (Down (record { image = image; journal = None }))
      (Down (record { image = new; journal = None })) x
  alone_refused new d x any left refusal = (
    refusal,
    λ placed p own_is. record {
      pair = go p own_is (left_now device d _ (any (held placed)) new.items
          left);
      log = tt;
    },
  )
    where
      go : (p : Pair) → found m.cluster image.items ≡ own p →
          StartLeaves (λ (e : MemoryModel). seen_after e.base e.events) (λ (e : MemoryModel). MayLeave e.base
          e.events) config.cluster device new.items
          → IsPairLeft m i (record { image = image; journal = None }) (record { image = new; journal = None })
      go p own_is (inl before) = inl (subst (λ (e : MemoryModel). MayLeave e.base e.events new.items) device_is before)
      go p own_is (inr h) = inr (
        p,
        alone (owner m i) p,
        own_is,
        refl,
        subst (λ (f : Finding). IsFormerOrNew m.cluster f (started_pair f) new.items) (same ∙ own_is)
            (subst (λ (k : ℕ). IsFormerOrNew k (found config.cluster (seen_after device.base device.events))
            (started_pair (found config.cluster (seen_after device.base device.events))) new.items) cluster h),
      )

  -- the pair and the journal after one over a journal
  pub over_refused : (octets : Vec ℕ Global) (j : journals.MemoryModel) →
      j ≡ record { base = octets.items; events = []; failures = 0 } → (new : Left) (d : MemoryModel)
      (k : Option journals.MemoryModel) (x : MachineReply)
      → (IsWellPlaced (seen_after device.base device.events) → LeavesOnly (λ (e : MemoryModel). length e.events)
      (λ (e : MemoryModel). LeftSince e.base e.events) device d
      (RestartLeaves (λ (e : MemoryModel). seen_after e.base e.events) (λ (e : MemoryModel). MayLeave e.base e.events)
      (owner_of config) device (recorded (journals.seen_after j.base j.events))))
      → LeavesOnlyIn (λ (e : journals.MemoryModel). length e.events) (λ (e : journals.MemoryModel). journals.LeftSince
      e.base e.events) (Some j) k
      (RestartNotes (λ (e : journals.MemoryModel). journals.seen_after e.base e.events) (λ (e : journals.MemoryModel).
      journals.MayLeave e.base e.events) (owner_of config)
      (found config.cluster (seen_after device.base device.events)) j)
      → MayLeave d.base d.events new.image.items → IsJournalLeft k new.journal → IsRefusal i x →
      IsStarted m i (Down (record { image = image; journal = Some octets })) (Down new) x
  over_refused octets j j_is new d k x any any_log left left_log refusal = (
    refusal,
    λ placed p own_is. record {
      pair = pair_go (left_now device d _ (any (held placed)) new.image.items left);
      log =
          log_go new.journal left_log;
    },
  )
    where
      restart : (pair : Pair) (start : Restart) → IsRestart (owner_of config) pair
          (recorded (journals.seen_after j.base j.events)) start → IsRestart (owner m i) pair (recorded octets.items)
          start
      restart pair start is = subst (λ (o : Owner). IsRestart o pair (recorded octets.items) start) owner_same
          (subst (λ (y : journals.MemoryModel). IsRestart (owner_of config) pair
          (recorded (journals.seen_after y.base y.events)) start) j_is is)

      pair_go : RestartLeaves (λ (e : MemoryModel). seen_after e.base e.events) (λ (e : MemoryModel). MayLeave e.base
          e.events) (owner_of config) device (recorded (journals.seen_after j.base j.events)) new.image.items
          → IsPairLeft m i (record { image = image; journal = Some octets }) new
      pair_go (inl before) = inl (subst (λ (e : MemoryModel). MayLeave e.base e.events new.image.items) device_is
          before)
      pair_go (inr (pair, start, is, f, h)) = inr (
        pair,
        start,
        sym same ∙ f,
        restart pair start is,
        subst (λ (y : Finding). IsFormerOrNew m.cluster y start.pair new.image.items) f
            (subst (λ (c : ℕ). IsFormerOrNew c (found config.cluster (seen_after device.base device.events))
            start.pair new.image.items) cluster h),
      )

      log_go : (o : Option (Vec ℕ Global)) → IsJournalLeft k o →
          IsLogLeft m i (record { image = image; journal = Some octets }) (Some octets) o
      log_go o l = by o (log_now (Some j) k _ any_log o l) l
        where
          by : (o : Option (Vec ℕ Global)) →
              IsLeftWith (RestartNotes (λ (e : journals.MemoryModel). journals.seen_after e.base e.events)
              (λ (e : journals.MemoryModel). journals.MayLeave e.base e.events) (owner_of config)
              (found config.cluster (seen_after device.base device.events)) j) o
              → IsJournalLeft k o → IsLogLeft m i (record { image = image; journal = Some octets }) (Some octets) o
          by (Some b) (inl (inl before)) l =
              inl (ap recorded (subst (λ (y : journals.MemoryModel). journals.MayLeave y.base y.events b.items) j_is
              before))
          by (Some b) (inl (inr reads)) l =
              inl (reads ∙ ap (λ (y : journals.MemoryModel). recorded (journals.seen_after y.base y.events)) j_is)
          by (Some b) (inr (pair, start, f, is, begun)) l = inr (
            pair,
            start,
            sym same ∙ f,
            restart pair start is,
            subst (λ (y : journals.MemoryModel). IsBegun (recorded (journals.seen_after y.base y.events)) start.notes
                b.items) j_is begun,
          )
          by None h l = nothing_left k any_log l
            where
              nothing_left : (k : Option journals.MemoryModel) →
                  LeavesOnlyIn (λ (e : journals.MemoryModel). length e.events) (λ (e : journals.MemoryModel).
                  journals.LeftSince e.base e.events) (Some j) k
                  (RestartNotes (λ (e : journals.MemoryModel). journals.seen_after e.base e.events)
                  (λ (e : journals.MemoryModel). journals.MayLeave e.base e.events) (owner_of config)
                  (found config.cluster (seen_after device.base device.events)) j)
                  → IsJournalLeft k None → IsLogLeft m i (record { image = image; journal = Some octets })
                  (Some octets) None
              nothing_left None any l = absurd any
              nothing_left (Some a) any l = absurd l

  -- A node that started again has its device as stores leave it.
  pub alone_placed : (new : MemoryModel) → (IsWellPlaced (seen_after device.base device.events) →
      IsWellPlaced (seen_after new.base new.events))
      → (IsWellPlaced (seen_after device.base device.events) → LeavesOnly (λ (d : MemoryModel). length d.events)
      (λ (d : MemoryModel). LeftSince d.base d.events) device new
      (StartLeaves (λ (d : MemoryModel). seen_after d.base d.events) (λ (d : MemoryModel). MayLeave d.base d.events)
      config.cluster device))
      → IsWellPlaced (seen_after device.base device.events) → IsPlaced new
  alone_placed new seen any h = record {
    seen = seen h;
    left = λ octets l. go octets (left_now device new _ (any h)
        octets l);
  }
    where
      go : (octets : List ℕ) → StartLeaves (λ (d : MemoryModel). seen_after d.base d.events)
          (λ (d : MemoryModel). MayLeave d.base d.events) config.cluster device octets → IsWellPlaced octets
      go octets (inl before) = subst IsWellPlaced (sym (subst (λ (d : MemoryModel). MayLeave d.base d.events octets)
          device_is before)) (subst (λ (d : MemoryModel). IsWellPlaced (seen_after d.base d.events)) device_is h)
      go octets (inr p) = p.placed

  pub over_placed : (strings : List (List ℕ)) (new : MemoryModel) →
      (IsWellPlaced (seen_after device.base device.events) → IsWellPlaced (seen_after new.base new.events))
      → (IsWellPlaced (seen_after device.base device.events) → LeavesOnly (λ (d : MemoryModel). length d.events)
      (λ (d : MemoryModel). LeftSince d.base d.events) device new
      (RestartLeaves (λ (d : MemoryModel). seen_after d.base d.events) (λ (d : MemoryModel). MayLeave d.base d.events)
      (owner_of config) device strings))
      → IsWellPlaced (seen_after device.base device.events) → IsPlaced new
  over_placed strings new seen any h = record {
    seen = seen h;
    left = λ octets l. go octets
        (left_now device new _ (any h) octets l);
  }
    where
      go : (octets : List ℕ) → RestartLeaves (λ (d : MemoryModel). seen_after d.base d.events)
          (λ (d : MemoryModel). MayLeave d.base d.events) (owner_of config) device strings octets → IsWellPlaced octets
      go octets (inl before) = subst IsWellPlaced (sym (subst (λ (d : MemoryModel). MayLeave d.base d.events octets)
          device_is before)) (subst (λ (d : MemoryModel). IsWellPlaced (seen_after d.base d.events)) device_is h)
      go octets (inr (pair, start, is, f, p)) = p.placed
