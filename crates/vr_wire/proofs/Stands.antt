-- Frames: what payloads stand for, one by one and in logs; what a part lacks, the message lacks.
use Rattle.std.proofs.Common.{◌≡◌, ℕ, zero, suc, ◌<◌, List, [], ◌∷◌, ◌++◌, length, take, get_or, sym, subst, arith}
use Rattle.ldap_op.specs.Values.{OpValue}
use Rattle.ldap_op.specs.Grammar.{IsOp}
use Rattle.vr_state.specs.Words.{LogEntry}
use Rattle.vr_state.specs.declared.message.PeerMessage.{PeerMessage}
use Rattle.vr_state.specs.declared.message.PeerMessage.TheVariants.{Prepare, PrepareOk, Commit, StartViewChange, DoViewChange, StartView, GetState}
use Rattle.vr_state.specs.declared.message.PeerMessage.TheVariants.{NewState, Recovery, RecoveryResponse}
use Rattle.vr_wire.specs.declared.error.WireError.{WireError}
use Rattle.vr_wire.specs.declared.error.WireError.TheVariants as error
use Rattle.vr_wire.specs.Payloads.{Refuses, IsEntryOf, AreEntriesOf, IsMessageOf}

pub entry_refused : (e : WireError) (raw : LogEntry (List ℕ)) → Refuses IsOp e raw.payload → Refuses IsEntryOf e raw
entry_refused error.BadFrame raw r = λ x h. r x.payload h.payload
entry_refused error.ForeignFrame raw r = r
entry_refused error.NoMemory raw r = tt

prepare_lacks : (v : ℕ) (raw : LogEntry (List ℕ)) (p k : ℕ) → ((x : LogEntry OpValue) → IsEntryOf x raw → ⊥) →
    (m : PeerMessage OpValue) → IsMessageOf m (Prepare v raw p k) → ⊥
prepare_lacks v raw p k r (Prepare w x q l) h = r x h.1
prepare_lacks v raw p k r (PrepareOk w q) h = h
prepare_lacks v raw p k r (Commit w l) h = h
prepare_lacks v raw p k r (StartViewChange w) h = h
prepare_lacks v raw p k r (DoViewChange w c) h = h
prepare_lacks v raw p k r (StartView w g) h = h
prepare_lacks v raw p k r (Recovery w) h = h
prepare_lacks v raw p k r (RecoveryResponse w g) h = h
prepare_lacks v raw p k r (GetState w l) h = h
prepare_lacks v raw p k r (NewState w y g) h = h

pub prepare_refused : (e : WireError) (v : ℕ) (raw : LogEntry (List ℕ)) (p k : ℕ) → Refuses IsEntryOf e raw →
    Refuses IsMessageOf e (Prepare v raw p k)
prepare_refused error.BadFrame v raw p k r = prepare_lacks v raw p k r
prepare_refused error.ForeignFrame v raw p k r = r
prepare_refused error.NoMemory v raw p k r = tt

-- one more record
pub entries_more : (es : List (LogEntry OpValue)) (raws : List (LogEntry (List ℕ))) (i : ℕ) (e : LogEntry OpValue)
    (raw d : LogEntry (List ℕ)) → AreEntriesOf es (take i raws) → i < length raws → raw ≡ get_or raws i d →
    IsEntryOf e raw → AreEntriesOf (es ++ e ∷ []) (take (suc i) raws)
entries_more es [] i e raw d h lt is one = absurd (omega (arith, lt))
entries_more [] (x ∷ raws) zero e raw d h lt is one = (subst (IsEntryOf e) is one, tt)
entries_more (y ∷ es) (x ∷ raws) zero e raw d h lt is one = absurd h
entries_more [] (x ∷ raws) (suc i) e raw d h lt is one = absurd h
entries_more (y ∷ es) (x ∷ raws) (suc i) e raw d h lt is one =
    (h.0, entries_more es raws i e raw d h.1 (omega (arith, lt)) is one)

pub entries_push : (es new : List (LogEntry OpValue)) (raws : List (LogEntry (List ℕ))) (i j : ℕ)
    (e : LogEntry OpValue) (raw d : LogEntry (List ℕ)) → j ≡ suc i → new ≡ es ++ e ∷ [] →
    AreEntriesOf es (take i raws) → i < length raws → raw ≡ get_or raws i d → IsEntryOf e raw →
    AreEntriesOf new (take j raws)
entries_push es new raws i j e raw d next pushed h lt is one =
    subst (λ (n : ℕ). AreEntriesOf new (take n raws)) (sym next)
    (subst (λ (l : List (LogEntry OpValue)). AreEntriesOf l (take (suc i) raws)) (sym pushed)
    (entries_more es raws i e raw d h lt is one))

-- a record that stands for nothing is in no log that stands for something
lacks_one : (raws : List (LogEntry (List ℕ))) (i : ℕ) (raw d : LogEntry (List ℕ)) → i < length raws →
    raw ≡ get_or raws i d → ((x : LogEntry OpValue) → IsEntryOf x raw → ⊥) → (es : List (LogEntry OpValue)) →
    AreEntriesOf es raws → ⊥
lacks_one [] i raw d lt is r es h = absurd (omega (arith, lt))
lacks_one (x ∷ raws) i raw d lt is r [] h = h
lacks_one (x ∷ raws) zero raw d lt is r (e ∷ es) h = r e (subst (IsEntryOf e) (sym is) h.0)
lacks_one (x ∷ raws) (suc i) raw d lt is r (e ∷ es) h = lacks_one raws i raw d (omega (arith, lt)) is r es h.1

pub entries_refused : (e : WireError) (raws : List (LogEntry (List ℕ))) (i : ℕ) (raw d : LogEntry (List ℕ)) →
    i < length raws → raw ≡ get_or raws i d → Refuses IsEntryOf e raw → Refuses AreEntriesOf e raws
entries_refused error.BadFrame raws i raw d lt is r = λ es h. lacks_one raws i raw d lt is r es h
entries_refused error.ForeignFrame raws i raw d lt is r = r
entries_refused error.NoMemory raws i raw d lt is r = tt
