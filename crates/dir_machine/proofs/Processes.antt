-- Processes that stand for a world still do after one event at one of them.
use Rattle.std.proofs.Common.{◌≡◌, ◌≢◌, ℕ, zero, suc, ◌+◌, ◌<◌, true, ◌⊎◌, inl, inr, List, [], ◌∷◌, ◌++◌, length, set, Option, Some, None, Vec, slice_get, refl, sym, ap, ◌∙◌, subst, arith, length-append}
use Rattle.std.specs.Arc.{arc_value}
use Rattle.std.specs.Global.{Global}
use Rattle.std.proofs.lemmas.List.{length-set}
use Rattle.state_machine.specs.dir_store.ldap_op.Values.{OpValue}
use Rattle.vr_world.proofs.Laws.{run-append}
use Rattle.vr_world.specs.Law.{TakesPart}
use Rattle.vr_world.specs.World.{World, after, has_used, run, sent_as, start}
use Rattle.vr_world.specs.declared.events.WorldEvent.{WorldEvent}
use Rattle.vr_world.specs.declared.words.Message.{Message}
use Rattle.dir_machine.proofs.Shown.{get_more, message_more, stage_next}
use Rattle.dir_machine.proofs.Turns.{in_turn_more, joined_more}
use Rattle.dir_machine.proofs.Worlds.{IsLater, SameAt, same_or}
use Rattle.dir_machine.specs.Happening.{MayHappen}
use Rattle.dir_machine.specs.Headline.{joined}
use Rattle.dir_machine.specs.Shown.{Stage, message_at, message_shown, stage, stage_by}
use Rattle.dir_machine.specs.private.Processes.{IsNew, MemoryNode}
use Rattle.dir_machine.specs.private.Running.{AreNew, AreSent, IsKeptBy, IsPlayed, IsUp, Stands, StandsFor}
use Rattle.dir_machine.specs.declared.events.MachineEvent.{MachineEvent}
use Rattle.dir_machine.specs.declared.events.Place.{Place}
use Rattle.dir_machine.specs.declared.machine.Machine.{Machine}
use Rattle.dir_machine.specs.declared.process.Process.{Process}
use Rattle.dir_machine.specs.declared.process.Process.TheVariants.{Unborn, Up, Down}
use Rattle.dir_machine.specs.declared.replies.MachineReply.{MachineReply}

-- what is written is there,
get_here : {A : Type 0} (xs : List A) (i : ℕ) (x : A) → i < length xs → slice_get (set xs i x) i ≡ Some x
get_here [] i x lt = absurd (omega arith)
get_here (y ∷ ys) zero x lt = refl
get_here (y ∷ ys) (suc i) x lt = get_here ys i x (omega arith)

-- and nothing else changes
get_there : {A : Type 0} (xs : List A) (i j : ℕ) (x : A) → j ≢ i → slice_get (set xs i x) j ≡ slice_get xs j
get_there [] i j x ne = refl
get_there (y ∷ ys) zero zero x ne = absurd (ne refl)
get_there (y ∷ ys) zero (suc j) x ne = refl
get_there (y ∷ ys) (suc i) zero x ne = refl
get_there (y ∷ ys) (suc i) (suc j) x ne = get_there ys i j x (λ e. ne (ap suc e))

-- there is something at each index of a list
pub not_missing : {A : Type 0} (xs : List A) (i : ℕ) → i < length xs → slice_get xs i ≡ None → ⊥
not_missing [] i lt e = absurd (omega arith)
not_missing (y ∷ ys) zero lt e = absurd (cc)
not_missing (y ∷ ys) (suc i) lt e = not_missing ys i (omega arith) e

-- None yet was up.
pub none_new : AreNew 0 []
none_new = record { counted = refl; each = λ i q h. absurd (cc) }

-- One more that was never up.
pub one_new : (n : ℕ) (processes : List Process) (p : Process) → AreNew n processes → IsNew p →
    AreNew (n + 1) (processes ++ p ∷ [])
one_new n processes p new is = record {
  counted = omega (arith, length-append processes (p ∷ []), new.counted);
  each =
      λ i q h. go i q (get_more processes p i q h);
}
  where
    go : (i : ℕ) (q : Process) → (slice_get processes i ≡ Some q) ⊎ (q ≡ p) → IsNew q
    go i q (inl h) = new.each i q h
    go i q (inr e) = subst IsNew (sym e) is

-- what is kept where nothing happened
kept_apart : (old new : World OpValue) (j view : ℕ) (log : Option (Vec ℕ Global)) → SameAt old new j →
    IsKeptBy old j view log → IsKeptBy new j view log
kept_apart old new j view None same h = same.stored ∙ h
kept_apart old new j view (Some octets) same h = λ t tells.
    let k = h t tells in
    record {
      whole = k.whole;
      has = record {
        stored = same.stored ∙ k.has.stored;
        change = k.has.change;
        kept = same.kept ∙ k.has.kept;
        log =
            k.has.log;
        last = k.has.last;
        low = k.has.low;
      };
    }

-- a process where nothing happened
stands_apart : (m : Machine) (old new : World OpValue) (j : ℕ) (s : Stage) (p : Process) → SameAt old new j →
    StandsFor m old j s p → StandsFor m new j s p
stands_apart m old new j s (Up n f) same h = (
  h.0,
  record {
    index = h.1.index;
    count = h.1.count;
    cluster = h.1.cluster;
    running = h.1.running;
    replica = same.replica ∙ h.1.replica;
    stored = same.stored ∙ h.1.stored;
    nonces = λ x u. h.1.nonces x (ap (λ l. has_used x l) (sym same.nonces) ∙ u);
    schema = h.1.schema;
    suffix = h.1.suffix;
    executed = h.1.executed;
    pair = h.1.pair;
    log = h.1.log;
    journaled = h.1.journaled;
    active = h.1.active;
    started = h.1.started;
    placed = h.1.placed;
  },
)
stands_apart m old new j s (Down left) same h = (
  h.0,
  record {
    pair = h.1.pair;
    found_is = h.1.found_is;
    down = same.replica ∙ h.1.down;
    journaled = h.1.journaled;
    kept = kept_apart old new j h.1.pair.view left.journal same h.1.kept;
    nonces = λ x u. h.1.nonces x (ap (λ l. has_used x l) (sym same.nonces) ∙ u);
    placed = h.1.placed;
  },
)
stands_apart m old new j s (Unborn image) same h = (
  h.0,
  record {
    replica = same.replica ∙ h.1.replica;
    stored = same.stored ∙ h.1.stored;
    nonces = λ x u. h.1.nonces x (ap (λ l. has_used x l) (sym same.nonces) ∙ u);
  },
)

-- A process that is up takes part, where it keeps a journal.
pub takes_part : (m : Machine) (w : World OpValue) (j : ℕ) (n : MemoryNode) → IsUp m w j n → m.journaled ≡ true →
    TakesPart w j
takes_part m w j n u kept = record { replica = n.replica; up = u.replica; active = u.active kept }

-- What became of process i at one event, in the world and in what is shown.
pub record Moved (m : Machine) (old new : World OpValue) (i : ℕ) (shown : List MachineReply) (x : MachineReply)
    (p : Process) : Type 0 where
  pub later : IsLater old new i
  pub apart : (j : ℕ) → j ≢ i → (s : Stage) → stage_by j s x ≡ s
  pub stands : StandsFor m new i (stage_by i (stage shown i) x) p
  pub sent : (part at : ℕ) (y : Message OpValue) → message_shown (Some x) part at ≡ Some y → (k : ℕ)
      × (sent_as k new.messages ≡ Some y)

-- messages
sent_on : (m : Machine) (old new : World OpValue) (i : ℕ) (shown : List MachineReply) (x : MachineReply)
    (p : Process) → AreSent shown old → Moved m old new i shown x p → AreSent (shown ++ x ∷ []) new
sent_on m old new i shown x p sent moved place y h = by (message_more shown x place y h)
  where
    by : (message_at shown place ≡ Some y) ⊎ (message_shown (Some x) place.part place.send ≡ Some y) → (k : ℕ)
        × (sent_as k new.messages ≡ Some y)
    by (inl e) = let k = sent place y e in (k.0, moved.later.sent k.0 y k.1)
    by (inr e) = moved.sent place.part place.send y e

-- Processes still stand for the world, where one was taken out and put back.
pub stands_on : (m : Machine) (old new : World OpValue) (i : ℕ) (shown : List MachineReply) (x : MachineReply)
    (before after : List Process) (hole p : Process)
    → Stands m old before shown → i < length before → after ≡ set (set before i hole) i p → Moved m old new i shown x
    p → Stands m new after (shown ++ x ∷ [])
stands_on m old new i shown x before after hole p stands lt is moved = record {
  counted = ap length is ∙ length-set (set before i hole) i p ∙ length-set before i hole ∙ stands.counted;
  each = λ j q h. one j q h (same_or i j);
  sent = sent_on m old new i shown x p stands.sent moved;
}
  where
    one : (j : ℕ) (q : Process) → slice_get after j ≡ Some q → (j ≡ i) ⊎ (j ≢ i) →
        StandsFor m new j (stage (shown ++ x ∷ []) j) q
    one j q h (inl e) =
        let there : slice_get after i ≡ Some p = ap (λ (l : List Process). slice_get l i) is
        ∙ get_here (set before i hole) i p (omega (arith, lt, length-set before i hole)) in
        let same : p ≡ q = cc (there, h, e) in
        subst (λ (k : ℕ). StandsFor m new k (stage (shown ++ x ∷ []) k) q) (sym e)
        (subst (λ (s : Stage). StandsFor m new i s q) (sym (stage_next shown x i))
        (subst (λ (z : Process). StandsFor m new i (stage_by i (stage shown i) x) z) same moved.stands))
    one j q h (inr ne) =
        let there : slice_get after j ≡ slice_get before j = ap (λ (l : List Process). slice_get l j) is
        ∙ get_there (set before i hole) i j p ne ∙ get_there before i j hole ne in
        subst (λ (s : Stage). StandsFor m new j s q) (sym (stage_next shown x j ∙ moved.apart j ne (stage shown j)))
        (stands_apart m old new j (stage shown j) q (moved.later.others j ne) (stands.each j q (sym there ∙ h)))

-- A reply that says nothing of where processes stand, and gives out no message.
pub record IsQuiet (x : MachineReply) : Type 0 where
  pub stages : (j : ℕ) (s : Stage) → stage_by j s x ≡ s
  pub silent : (part at : ℕ) (y : Message OpValue) → message_shown (Some x) part at ≡ Some y → ⊥

-- Processes still stand for the world where nothing happened to any of them.
pub stands_still : (m : Machine) (w : World OpValue) (shown : List MachineReply) (x : MachineReply)
    (processes : List Process) → Stands m w processes shown → IsQuiet x → Stands m w processes (shown ++ x ∷ [])
stands_still m w shown x processes stands quiet = record {
  counted = stands.counted;
  each = λ j q h. subst (λ (s : Stage). StandsFor m w j s q)
      (sym (stage_next shown x j ∙ quiet.stages j (stage shown j))) (stands.each j q h);
  sent = λ place y h. by place y (message_more shown x place y h);
}
  where
    by : (place : Place) (y : Message OpValue) → (message_at shown place ≡ Some y)
        ⊎ (message_shown (Some x) place.part place.send ≡ Some y) → (k : ℕ) × (sent_as k w.messages ≡ Some y)
    by place y (inl e) = stands.sent place y e
    by place y (inr e) = absurd (quiet.silent place.part place.send y e)

-- One event more was played.
pub played_on : (m : Machine) (es : List MachineEvent) (before after : List Process) (shown : List MachineReply)
    (e : MachineEvent) (x : MachineReply) (h : List (WorldEvent OpValue)) (p : IsPlayed m es before shown)
    → MayHappen (arc_value m.schema) m.suffix m.cluster m.count m.journaled shown e x h (run m.count (joined p.happened)
    (start m.count)) → Stands m (run m.count h (run m.count (joined p.happened) (start m.count))) after
    (shown ++ x ∷ [])
    → IsPlayed m (es ++ e ∷ []) after (shown ++ x ∷ [])
played_on m es before after shown e x h p may stands = record {
  happened = p.happened ++ h ∷ [];
  in_turn = in_turn_more (arc_value m.schema) m.suffix m.cluster m.count m.journaled [] es shown p.happened
      (start m.count) e x
      h p.in_turn may;
  stands = subst (λ (u : World OpValue). Stands m u after (shown ++ x ∷ []))
      (sym (ap (λ (l : List (WorldEvent OpValue)). run m.count l (start m.count)) (joined_more p.happened h)
      ∙ run-append m.count (joined p.happened) h (start m.count))) stands;
}
