-- What a journal tells of a replica that crashed, and which state it is that a node's steps left in it.
use Rattle.std.proofs.Common.{◌≡◌, ℕ, zero, suc, ◌<◌, ◌⊎◌, nat_lt, not, ◌&&◌, Bool, true, false, cond, inl, inr, List, [], ◌∷◌, take, Option, Some, None, is_some, Vec, length, refl, sym, ap, ◌∙◌, subst, lt-ltb, true≢false}
use Rattle.std.specs.Global.{Global}
use Rattle.dir_node.specs.Logged.{LeavesOnlyIn, LeavesTold, device_in}
use Rattle.dir_node.specs.NodeState.{head}
use Rattle.dir_node.specs.log_journal.Batches.{OneIsTold}
use Rattle.dir_node.specs.log_journal.Taken.{AreSome, MakesSome}
use Rattle.dir_node.specs.log_journal.Told.{Told, nothing_told}
use Rattle.journal.specs.Memory as journals
use Rattle.journal.specs.Replay.{counts_now}
use Rattle.journal.specs.declared.journal.Journal.{Journal}
use Rattle.state_machine.specs.dir_store.ldap_op.Values.{OpValue}
use Rattle.vr_state.specs.Journaled.{Kept, IsKeptOf, after_events}
use Rattle.vr_state.specs.State.{State, is_normal, is_recovering}
use Rattle.vr_state.specs.Step.{step}
use Rattle.vr_state.specs.StepLaw.{LastIsKept}
use Rattle.vr_state.specs.ViewChange.{own_change}
use Rattle.vr_state.specs.declared.event.Event.{Event}
use Rattle.vr_state.specs.declared.words.Status.{Status}
use Rattle.vr_state.specs.declared.words.Status.TheVariants as status
use Rattle.vr_world.specs.World.{World, kept_of}
use Rattle.dir_machine.specs.private.Processes.{IsJournalLeft, IsKeptIn, LogsIt, MemoryNode, TellsIn}
use Rattle.dir_machine.specs.private.Running.{IsKeptTold, IsLogOf}

-- a status that is recovering isn't normal
not_normal : (s : Status) → is_recovering s ≡ true → is_normal s ≡ false
not_normal status.Normal e = absurd (true≢false (sym e))
not_normal status.ViewChange e = refl
not_normal status.Recovering e = refl

-- A replica that recovers after some steps did before them.
recovers_since : LastIsKept OpValue → (n i : ℕ) (r : State OpValue) (es : List (Event OpValue)) (s : State OpValue) →
    MakesSome n i r es s → is_recovering s.status ≡ true → is_recovering r.status ≡ true
recovers_since last n i r [] s same e = ap (λ (x : State OpValue). is_recovering x.status) (sym same) ∙ e
recovers_since last n i r (x ∷ es) s (inl same) e = ap (λ (y : State OpValue). is_recovering y.status) (sym same) ∙ e
recovers_since last n i r (x ∷ es) s (inr (t, how, rest)) e = go how (recovers_since last n i t es s rest e)
  where
    go : (t ≡ r) ⊎ (t ≡ (step n i r x).state) → is_recovering t.status ≡ true → is_recovering r.status ≡ true
    go (inl same) h = ap (λ (y : State OpValue). is_recovering y.status) (sym same) ∙ h
    go (inr is) h =
        let now : is_recovering (step n i r x).state.status ≡ true =
        ap (λ (y : State OpValue). is_recovering y.status) (sym is) ∙ h in
        sym (last n i r x (not_normal (step n i r x).state.status now)).1 ∙ now

-- One that doesn't, doesn't after them.
pub stays_active : LastIsKept OpValue → (n i : ℕ) (r : State OpValue) (es : List (Event OpValue))
    (s : State OpValue) → MakesSome n i r es s → is_recovering r.status ≡ false → is_recovering s.status ≡ false
stays_active last n i r es s some active = go (is_recovering s.status) refl
  where
    go : (b : Bool) → is_recovering s.status ≡ b → is_recovering s.status ≡ false
    go false e = e
    go true e = absurd (true≢false (sym (recovers_since last n i r es s some e) ∙ active))

-- The state after some first of the events that were taken of these is one that some first of these make.
pub taken_some : (n i k : ℕ) (r : State OpValue) (taken : List (Event OpValue × ℕ)) (es : List (Event OpValue)) →
    AreSome taken es → MakesSome n i r es (after_events n i r (take k taken))
taken_some n i zero r taken [] h = refl
taken_some n i zero r taken (e ∷ es) h = inl refl
taken_some n i (suc k) r [] [] h = refl
taken_some n i (suc k) r [] (e ∷ es) h = inl refl
taken_some n i (suc k) r (x ∷ xs) [] h = absurd h
taken_some n i (suc k) r (x ∷ xs) (e ∷ es) (inl h) =
    inr (
      (step n i r x.0).state,
      inr (ap (λ (y : Event OpValue). (step n i r y).state) h.0),
      taken_some n i k (step n
          i r x.0).state xs es h.1,
    )
taken_some n i (suc k) r (x ∷ xs) (e ∷ es) (inr h) = inr (r, inl refl, taken_some n i (suc k) r (x ∷ xs) es h)

-- What is told of a replica that crashed is what the world keeps of it.
kept_told : (v : World OpValue) (i : ℕ) (s : State OpValue) (t u : Told) (h : Kept OpValue) →
    u ≡ record t { kept = h } → IsKeptOf h s → 0 < t.restarts → v.stored i ≡ s.view_number → v.kept i ≡ kept_of s →
    is_recovering s.status ≡ false
    → IsKeptTold v i u
kept_told v i s t u h is of started stored kept active = subst (λ (x : Told). IsKeptTold v i x) (sym is) (record {
  whole = ap (λ b. b && nat_lt 0 t.restarts) (of.whole ∙ ap not active) ∙ lt-ltb 0 t.restarts started;
  has = record {
    stored = stored ∙ sym of.view;
    change = own_change s;
    kept = kept ∙ ap (λ b. cond b None (Some (own_change s))) active;
    log = sym of.log;
    last = sym of.last;
    low = of.low;
  };
})

-- So it is with all that the journal's strings tell.
pub log_told : OneIsTold → (v : World OpValue) (i : ℕ) (s : State OpValue) (t : Told) (strings : List (List ℕ)) →
    IsKeptIn t s strings → 0 < t.restarts → v.stored i ≡ s.view_number → v.kept i ≡ kept_of s →
    is_recovering s.status ≡ false
    → IsLogOf v i strings
log_told one v i s t strings told started stored kept active u tells =
    kept_told v i s t u told.kept (one strings nothing_told u (record t { kept = told.kept }) tells told.tells)
    told.of started stored kept active

-- There is a journal left where there was one.
pub left_some : (x : Option (Journal journals.MemoryModel)) (o : Option (Vec ℕ Global)) → IsJournalLeft (device_in x)
    o → is_some o ≡ is_some x
left_some None None l = refl
left_some None (Some octets) l = absurd l
left_some (Some j) None l = absurd l
left_some (Some j) (Some octets) l = refl

-- A node that keeps its journal leaves one that tells its replica.
pub left_tells : (n : MemoryNode) → LogsIt n → (o : Option (Vec ℕ Global)) → IsJournalLeft (device_in n.journal) o →
    TellsIn (head n) n.replica o
left_tells n logs = go n.journal logs
  where
    go : (x : Option (Journal journals.MemoryModel)) → LeavesTold (λ (j : journals.MemoryModel). journals.MayLeave
        j.base j.events) x (head n) n.replica → (o : Option (Vec ℕ Global)) → IsJournalLeft (device_in x) o →
        TellsIn (head n) n.replica o
    go None h None l = tt
    go None h (Some octets) l = absurd l
    go (Some j) h None l = absurd l
    go (Some j) h (Some octets) l = let k = h octets.items l in record { kept = k.kept; tells = k.tells; of = k.of }

-- What a crash may leave of a journal, where there is one, has this.
abbrev pub IsLeftWith : (List ℕ → Type 0) → Option (Vec ℕ Global) → Type 0
IsLeftWith P None = Unit {0}
IsLeftWith P (Some octets) = P octets.items

-- What a crash may leave of a journal has what a call says of each moment.
pub log_now : (old new : Option journals.MemoryModel) (P : List ℕ → Type 0) →
    LeavesOnlyIn (λ (j : journals.MemoryModel). length j.events) (λ (j : journals.MemoryModel). journals.LeftSince
    j.base j.events) old new P
    → (o : Option (Vec ℕ Global)) → IsJournalLeft new o → IsLeftWith P o
log_now None None P any None l = tt
log_now None None P any (Some octets) l = absurd l
log_now (Some a) (Some b) P any None l = absurd l
log_now (Some a) (Some b) P any (Some octets) l = any.each octets.items (counts_now b.base b.events (length a.events)
    octets.items any.later l)
log_now None (Some b) P any o l = absurd any
log_now (Some a) None P any o l = absurd any
