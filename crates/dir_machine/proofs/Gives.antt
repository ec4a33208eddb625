-- What a process stands for after it was given events, or ended.
use Rattle.std.proofs.Common.{◌≡◌, ◌≢◌, ℕ, ◌<◌, ◌≤◌, ◌==◌, Bool, true, false, cond, ◌⊎◌, inl, inr, List, [], ◌∷◌, ◌++◌, take, Option, Some, None, is_some, Result, slice_get, Vec, refl, sym, ap, ◌∙◌, subst, eq-eqb}
use Rattle.std.specs.Arc.{arc_value}
use Rattle.std.specs.Global.{Global}
use Rattle.std.specs.declared.alloc.AllocError.{AllocError}
use Rattle.dir_node.specs.Handling.{MakesSteps}
use Rattle.dir_node.specs.NodeState.{head, pair_of}
use Rattle.dir_node.specs.declared.error.NodeError.{NodeError}
use Rattle.dir_node.specs.log_journal.Taken.{MakesSome}
use Rattle.dir_node.specs.log_journal.Told.{Told}
use Rattle.journal.specs.Frames.{recorded}
use Rattle.dir_node.specs.declared.error.NodeError.TheVariants.{NoMemory}
use Rattle.state_machine.specs.dir_store.ldap_op.Values.{OpValue}
use Rattle.view_store.specs.Slots.{IsWellPlaced, found, own}
use Rattle.view_store.specs.declared.slot.Pair.{Pair}
use Rattle.vr_state.proofs.Laws.{prefix_trans}
use Rattle.vr_state.specs.State.{State, is_recovering}
use Rattle.vr_state.specs.declared.event.Event.{Event}
use Rattle.vr_state.specs.declared.message.Outputs.{Outputs}
use Rattle.vr_world.proofs.Laws.{run-append}
use Rattle.vr_world.specs.Law.{IsSize}
use Rattle.vr_world.specs.World.{World, has_used, happens, kept_of, put, run}
use Rattle.vr_world.specs.declared.events.WorldEvent.{WorldEvent}
use Rattle.vr_world.specs.declared.events.WorldEvent.TheVariants.{Crash}
use Rattle.dir_machine.proofs.Journals.{left_some, left_tells, log_told, stays_active}
use Rattle.dir_machine.proofs.Processes.{Moved}
use Rattle.dir_machine.proofs.Taking.{Ran, RanSome, caught_up, none_taken, ran, some_ran, steps_some}
use Rattle.dir_machine.proofs.Worlds.{IsLater, IsReached, crashed_is, later_refl, later_trans, not_eqb, put_here, put_there}
use Rattle.dir_machine.specs.Happening.{EndsInside, MayHappen, TakesEach}
use Rattle.dir_machine.specs.Shown.{Stage, unborn, up, down, stopped, message_in, stage}
use Rattle.dir_machine.specs.private.Givens.{AreAsked}
use Rattle.dir_machine.specs.private.Processes.{EndedInside, IsEnded, IsGiven, MemoryNode, TellsIn, Took}
use Rattle.dir_machine.specs.private.Running.{AreFramed, AreSent, AreUpTo, IsDown, IsKeptBy, IsUp, Laws, StandsFor}
use Rattle.dir_machine.specs.declared.events.Given.{Given}
use Rattle.dir_machine.specs.declared.events.MachineEvent.TheVariants as event
use Rattle.dir_machine.specs.declared.machine.Machine.{Machine}
use Rattle.dir_machine.specs.declared.process.Left.{Left}
use Rattle.dir_machine.specs.declared.process.Process.{Process}
use Rattle.dir_machine.specs.declared.process.Process.TheVariants.{Unborn, Up, Down}
use Rattle.dir_machine.specs.declared.replies.MachineReply.{MachineReply}
use Rattle.dir_machine.specs.declared.replies.MachineReply.TheVariants as reply

-- two stages differ
pub unborn_not_up : {s : Stage} → s ≡ unborn → s ≢ up
unborn_not_up e f = absurd (cc)

pub down_not_up : {s : Stage} → s ≡ down → s ≢ up
down_not_up e f = absurd (cc)

-- What may happen where replica i is given these, one or a batch.
abbrev pub MayBeGiven : ℕ → List MachineReply → ℕ → List Given → MachineReply → List (WorldEvent OpValue) →
    World OpValue → Type 0
MayBeGiven n before i gs reply.Nothing h w = (h ≡ []) × (stage before i ≢ up)
MayBeGiven n before i gs (reply.Handled j outs behind) h w = (j ≡ i) × TakesEach n before i gs outs.items h w
MayBeGiven n before i gs (reply.Refused j e) h w = (j ≡ i) × (e ≡ NoMemory) × (h ≡ [])
MayBeGiven n before i gs (reply.Stopped j e) h w = (j ≡ i) × (e ≢ NoMemory) × EndsInside n before i gs h w
MayBeGiven n before i gs _ h w = ⊥

-- one event
pub may_one : (m : Machine) (before : List MachineReply) (i : ℕ) (g : Given) (x : MachineReply)
    (h : List (WorldEvent OpValue)) (w : World OpValue) → MayBeGiven m.count before i (g ∷ []) x h w
    → MayHappen (arc_value m.schema) m.suffix m.cluster m.count m.journaled before (event.Give i g) x h w
may_one m before i g reply.Nothing h w may = (may.0, inl (inr may.1))
may_one m before i g (reply.Handled j outs behind) h w may = may
may_one m before i g (reply.Refused j e) h w may = may
may_one m before i g (reply.Stopped j e) h w may = may
may_one m before i g _ h w may = absurd may

-- a batch
pub may_all : (m : Machine) (before : List MachineReply) (i : ℕ) (gs : Vec Given Global) (x : MachineReply)
    (h : List (WorldEvent OpValue)) (w : World OpValue) → MayBeGiven m.count before i gs.items x h w
    → MayHappen (arc_value m.schema) m.suffix m.cluster m.count m.journaled before (event.GiveAll i gs) x h w
may_all m before i gs reply.Nothing h w may = (may.0, inl (inr may.1))
may_all m before i gs (reply.Handled j outs behind) h w may = may
may_all m before i gs (reply.Refused j e) h w may = may
may_all m before i gs (reply.Stopped j e) h w may = may
may_all m before i gs _ h w may = absurd may

-- what happened, and what stands for it
pub record Acted (m : Machine) (w : World OpValue) (i : ℕ) (shown : List MachineReply) (x : MachineReply)
    (p : Process) (May : List (WorldEvent OpValue) → Type 0) : Type 0 where
  pub happened : List (WorldEvent OpValue)
  pub may : May happened
  pub moved : Moved m w (run m.count happened w) i shown x p

-- a crash leaves the other replicas, and each message
crash_later : (n i : ℕ) (w : World OpValue) (r : State OpValue) → i < n → w.replicas i ≡ Some r →
    IsLater w (happens n w (Crash i)) i
crash_later n i w r lt up_is =
    subst (λ (u : World OpValue). IsLater w u i) (sym (crashed_is n i w r lt up_is))
    (record {
      others = λ j ne. record {
        replica = put_there i j None w.replicas ne;
        stored = refl;
        kept =
            put_there i j (kept_of r) w.kept ne;
        nonces = refl;
      };
      sent = λ k x h. h;
    })

-- another replica's stage stays
pub stage_apart : (i j k : ℕ) (t s : Stage) → j ≡ i → k ≢ i → cond (j == k) t s ≡ s
stage_apart i j k t s is ne = ap (λ b. cond b t s) (not_eqb k j (λ e. ne (sym e ∙ is)))

-- its own is what the reply says
pub stage_own : (i j : ℕ) (t s : Stage) → j ≡ i → cond (j == i) t s ≡ t
stage_own i j t s is = ap (λ b. cond b t s) (eq-eqb j i is)

module _ (laws : Laws) (m : Machine) (size : IsSize m.count) (w : World OpValue) (i : ℕ) (lt : i < m.count)
    (shown : List MachineReply) (reached : IsReached m.count w) (framed : AreFramed m.cluster shown)
    (sent : AreSent shown w) where
  -- a node that took events
  took : (gs : List Given) (es : List (Event OpValue)) (old new : MemoryNode)
      (outs : List (Result (Outputs OpValue) AllocError)) (behind : Bool) → AreAsked m.cluster shown i gs es →
      IsUp m w i old
      → Took es old new outs behind → Ran m.count i shown gs outs w old.replica new.replica
  took gs es old new outs behind asked u t =
      ran laws.frames m.cluster m.count i size lt shown framed gs es outs w old.replica new.replica reached sent asked
      u.replica u.stored
      (subst (λ (k : ℕ). MakesSteps m.count k old.replica es outs new.replica) u.index
      (subst (λ (k : ℕ). MakesSteps k old.index old.replica es outs new.replica) u.count t.steps))

  -- is up still
  took_up : (gs : List Given) (es : List (Event OpValue)) (old new : MemoryNode)
      (outs : List (Result (Outputs OpValue) AllocError)) (behind : Bool) → IsUp m w i old → Took es old new outs behind
      → (r : Ran m.count i shown gs outs w old.replica new.replica) → IsUp m (run m.count r.happened w) i new
  took_up gs es old new outs behind u t r = record {
    index = t.same.index ∙ u.index;
    count = t.same.count ∙ u.count;
    cluster = t.same.cluster ∙ u.cluster;
    running = t.running;
    replica = r.replica;
    stored = r.stored;
    nonces = λ x h. subst (λ (k : ℕ). x ≤ k) (sym t.same.restarts) (u.nonces x (ap (λ l. has_used x l) (sym r.nonces)
        ∙ h));
    schema = t.same.schema ∙ u.schema;
    suffix = t.same.suffix ∙ u.suffix;
    executed = caught_up behind old.executed.records new.executed.records (take new.replica.commit_number
        new.replica.log) (prefix_trans u.executed r.committed) t.executed;
    pair = t.pair;
    log = t.log;
    journaled = t.same.journaled ∙ u.journaled;
    active = λ kept. stays_active laws.last old.count old.index old.replica es new.replica
        (steps_some old.count old.index old.replica es outs new.replica t.steps) (u.active kept);
    started = subst (λ (k : ℕ). 0 < k) (sym t.same.restarts) u.started;
    placed = t.placed u.running u.placed.seen;
  }

  -- Its process ends in this world.
  ends_down : (v : World OpValue) (s : State OpValue) (pair : Pair) (left : Left) (t : Told) → v.replicas i ≡ Some s →
      v.stored i ≡ s.view_number → found m.cluster left.image.items ≡ own pair → AreUpTo v i pair.restarts
      → IsWellPlaced left.image.items → 0 < t.restarts → TellsIn t s left.journal →
      (left.journal ≡ None → s.view_number ≡ pair.view) → is_some left.journal ≡ m.journaled →
      (m.journaled ≡ true → is_recovering s.status ≡ false)
      → IsDown m (happens m.count v (Crash i)) i left
  ends_down v s pair left t here stored found_is nonces placed started tells alone journaled active = record {
    pair = pair;
    found_is = found_is;
    down = ap (λ (u : World OpValue). u.replicas i) to ∙ put_here i None v.replicas;
    journaled = journaled;
    kept = go left.journal alone journaled tells;
    nonces = λ x h. nonces x (ap (λ (u : World OpValue). has_used x (u.nonces i)) (sym to) ∙ h);
    placed = placed;
  }
    where
      to : happens m.count v (Crash i) ≡ record v { replicas = put i None v.replicas; kept = put i (kept_of s) v.kept }
      to = crashed_is m.count i v s lt here

      now : (happens m.count v (Crash i)).stored i ≡ s.view_number
      now = ap (λ (u : World OpValue). u.stored i) to ∙ stored

      go : (o : Option (Vec ℕ Global)) → (o ≡ None → s.view_number ≡ pair.view) → is_some o ≡ m.journaled →
          TellsIn t s o → IsKeptBy (happens m.count v (Crash i)) i pair.view o
      go None alone is tells = now ∙ alone refl
      go (Some octets) alone is tells =
          log_told laws.one (happens m.count v (Crash i)) i s t (recorded octets.items) tells started now
          (ap (λ (u : World OpValue). u.kept i) to ∙ put_here i (kept_of s) v.kept) (active (sym is))

  -- It ended after some first of what it was given.
  ended_after : (gs : List Given) (old : MemoryNode) (left : Left) (j : ℕ) (e : NodeError) → j ≡ i → e ≢ NoMemory →
      stage shown i ≡ up → IsUp m w i old → (s : State OpValue) → RanSome m.count i shown gs w s
      → (pair : Pair) → pair.restarts ≡ old.restarts → found old.cluster left.image.items ≡ own pair →
      IsWellPlaced left.image.items → TellsIn (head old) s left.journal
      → (left.journal ≡ None → s.view_number ≡ pair.view) → is_some left.journal ≡ m.journaled →
      (m.journaled ≡ true → is_recovering s.status ≡ false)
      → Acted m w i shown (reply.Stopped j e) (Down left) (λ h. MayBeGiven m.count shown i gs (reply.Stopped j e) h w)
  ended_after gs old left j e own_is cause was u s r pair restarts found_is placed tells alone journaled active =
      record {
        happened = r.happened ++ Crash i ∷ [];
        may = (own_is, cause, record { taken = r.happened; some = r.some; crash = refl });
        moved = subst (λ (v : World OpValue). Moved m w v i shown (reply.Stopped j e) (Down left))
            (sym (run-append m.count r.happened (Crash i ∷ []) w)) (record {
              later = later_trans w (run m.count r.happened w) (happens m.count (run m.count r.happened w) (Crash i)) i
                  r.later (crash_later m.count i (run m.count r.happened w) s lt r.replica);
              apart = λ k ne t. stage_apart i j k (stopped t) t own_is ne;
              stands = (
                stage_own i j (stopped (stage shown i)) (stage shown i) own_is ∙ ap stopped was,
                ends_down (run m.count r.happened w) s pair left (head old) r.replica r.stored
                    (ap (λ (c : ℕ). found c left.image.items) (sym u.cluster) ∙ found_is)
                    (λ x h. subst (λ (k : ℕ). x ≤ k) (sym restarts) (u.nonces x (ap (λ l. has_used x l) (sym r.nonces)
                    ∙ h)))
                    placed u.started tells alone journaled active,
              );
              sent = λ part at y h. absurd (cc);
            });
      }

  -- It ended inside a call: before what it was given, or after some first of that.
  ended_inside : (gs : List Given) (es : List (Event OpValue)) (old : MemoryNode) (left : Left) (j : ℕ)
      (e : NodeError) → j ≡ i → e ≢ NoMemory → stage shown i ≡ up → IsUp m w i old → AreAsked m.cluster shown i gs es →
      EndedInside es old left
      → Acted m w i shown (reply.Stopped j e) (Down left) (λ h. MayBeGiven m.count shown i gs (reply.Stopped j e) h w)
  ended_inside gs es old left j e own_is cause was u asked ended = go left.journal refl ended.pair
    where
      Ends : Type 0
      Ends = Acted m w i shown (reply.Stopped j e) (Down left) (λ h. MayBeGiven m.count shown i gs (reply.Stopped j e)
          h w)

      ran_is : RanSome m.count i shown gs w ended.replica
      ran_is = some_ran m.count i lt shown laws.frames m.cluster framed size gs es w old.replica ended.replica sent
          asked u.replica u.stored
          (subst (λ (k : ℕ). MakesSome m.count k old.replica es ended.replica) u.index
          (subst (λ (k : ℕ). MakesSome k old.index old.replica es ended.replica) u.count ended.steps))

      journaled : is_some left.journal ≡ m.journaled
      journaled = ended.journaled ∙ u.journaled

      active : m.journaled ≡ true → is_recovering ended.replica.status ≡ false
      active kept = stays_active laws.last old.count old.index old.replica es ended.replica ended.steps (u.active kept)

      none : RanSome m.count i shown gs w old.replica
      none = record {
        happened = [];
        some = none_taken m.count shown i gs w;
        later = later_refl w i;
        replica =
            u.replica;
        stored = u.stored;
        nonces = refl;
      }

      go : (o : Option (Vec ℕ Global)) → left.journal ≡ o
          → (found old.cluster left.image.items ≡ own (pair_of old))
          ⊎ (found old.cluster left.image.items ≡ own (record (pair_of old) { view = ended.replica.view_number }))
          → Ends
      go None is (inl former) =
          ended_after gs old left j e own_is cause was u old.replica none (pair_of old) refl former ended.placed
          (subst (λ (o : Option (Vec ℕ Global)). TellsIn (head old) old.replica o) (sym is) tt) (λ q. refl)
          journaled u.active
      go (Some octets) is (inl former) = ended_after gs old left j e own_is cause was u ended.replica ran_is
          (pair_of old) refl former ended.placed ended.log (λ q. absurd (cc (is, q))) journaled active
      go o is (inr after) =
          ended_after gs old left j e own_is cause was u ended.replica ran_is
          (record (pair_of old) { view = ended.replica.view_number }) refl after ended.placed ended.log
          (λ q. refl) journaled active

  -- Replica i is given events.
  pub given_on : (gs : List Given) (es : List (Event OpValue)) (old new : Process) (x : MachineReply) →
      AreAsked m.cluster shown i gs es → StandsFor m w i (stage shown i) old → IsGiven i es old new x
      → Acted m w i shown x new (λ h. MayBeGiven m.count shown i gs x h w)
  given_on gs es (Up old f) (Up new g) (reply.Handled j outs behind) asked stands is =
      go (took gs es old new outs.items behind asked stands.1 is.1)
    where
      go : Ran m.count i shown gs outs.items w old.replica new.replica →
          Acted m w i shown (reply.Handled j outs behind) (Up new g) (λ h. MayBeGiven m.count shown i gs
          (reply.Handled j outs behind) h w)
      go r = record {
        happened = r.happened;
        may = (is.0, r.each);
        moved = record {
          later = r.later;
          apart = λ k ne s. refl;
          stands = (stands.0, took_up gs es old new outs.items behind stands.1 is.1 r);
          sent = λ part at y h. r.sent part at y (ap (λ (k : ℕ). message_in k (slice_get outs.items part) at)
              (sym is.0) ∙ h);
        };
      }
  given_on gs es (Up old f) (Up new g) (reply.Refused j e) asked stands is = record {
    happened = [];
    may = (is.0, is.1, refl);
    moved = record {
      later = later_refl w i;
      apart = λ k ne s. refl;
      stands = (stands.0, subst (λ (n : MemoryNode). IsUp m w i n) (sym is.2) stands.1);
      sent = λ part at y h. absurd (cc);
    };
  }
  given_on gs es (Up old f) (Down left) (reply.Stopped j e) asked stands is =
      ended_inside gs es old left j e is.0 is.1 stands.0 stands.1 asked (is.2 stands.1.running stands.1.placed.seen
      stands.1.pair)
  given_on gs es (Down old) (Down new) reply.Nothing asked stands is = record {
    happened = [];
    may = (refl, down_not_up stands.0);
    moved = record {
      later = later_refl w i;
      apart = λ k ne s. refl;
      stands = subst (λ (l : Left). (stage shown i ≡ down) × IsDown m w i l) (sym is) stands;
      sent = λ part at y h. absurd (cc);
    };
  }
  given_on gs es (Unborn old) (Unborn new) reply.Nothing asked stands is = record {
    happened = [];
    may = (refl, unborn_not_up stands.0);
    moved = record {
      later = later_refl w i;
      apart = λ k ne s. refl;
      stands = stands;
      sent = λ part at y h.
          absurd (cc);
    };
  }
  given_on gs es _ _ _ asked stands is = absurd is

  -- what may happen where replica i's process is to end
  abbrev pub MayEnd : MachineReply → List (WorldEvent OpValue) → Type 0
  MayEnd reply.Nothing h = (h ≡ []) × (stage shown i ≢ up)
  MayEnd (reply.Crashed j) h = (j ≡ i) × (h ≡ Crash i ∷ [])
  MayEnd _ h = ⊥

  -- Replica i's process ends.
  pub ended_on : (old new : Process) (x : MachineReply) → StandsFor m w i (stage shown i) old → IsEnded i old new x →
      Acted m w i shown x new (λ h. MayEnd x h)
  ended_on (Up old f) (Down left) (reply.Crashed j) stands is = record {
    happened = Crash i ∷ [];
    may = (is.0, refl);
    moved = record {
      later = crash_later m.count i w old.replica lt stands.1.replica;
      apart = λ k ne s. stage_apart i j k down s is.0 ne;
      stands = (
        stage_own i j down (stage shown i) is.0,
        ends_down w old.replica (pair_of old) left (head old) stands.1.replica stands.1.stored
            (ap (λ (c : ℕ). found c left.image.items) (sym stands.1.cluster) ∙ stands.1.pair left.image.items
            is.1.image)
            stands.1.nonces (stands.1.placed.left left.image.items is.1.image) stands.1.started
            (left_tells old stands.1.log left.journal is.1.journal) (λ q. refl)
            (left_some old.journal left.journal is.1.journal ∙ stands.1.journaled) stands.1.active,
      );
      sent = λ part at y h. absurd (cc);
    };
  }
  ended_on (Down old) (Down new) reply.Nothing stands is = record {
    happened = [];
    may = (refl, down_not_up stands.0);
    moved = record {
      later = later_refl w i;
      apart = λ k ne s. refl;
      stands = subst (λ (l : Left). (stage shown i ≡ down) × IsDown m w i l) (sym is) stands;
      sent = λ part at y h. absurd (cc);
    };
  }
  ended_on (Unborn old) (Unborn new) reply.Nothing stands is = record {
    happened = [];
    may = (refl, unborn_not_up stands.0);
    moved = record {
      later = later_refl w i;
      apart = λ k ne s. refl;
      stands = stands;
      sent = λ part at y h.
          absurd (cc);
    };
  }
  ended_on _ _ _ stands is = absurd is
