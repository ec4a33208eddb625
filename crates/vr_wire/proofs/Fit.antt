-- A message whose records can be spelled says what is written of it.
use Rattle.std.proofs.Common.{◌≡◌, ◌≤◌, ℕ, List, [], ◌∷◌, inl, inr, length, Option, Some, None, IfOk, Vec, refl, subst, arith, Result, Ok, Err}
use Rattle.std.proofs.lemmas.Bool.{cases_lt}
use Rattle.std.proofs.lemmas.List.{length-map}
use Rattle.std.specs.Global.{Global}
use Rattle.std.specs.List.{AllByRecursion}
use Rattle.ldap_op.specs.Values.{OpValue}
use Rattle.view_store.specs.Cluster.{IsCluster}
use Rattle.vr_state.specs.Words.{LogEntry}
use Rattle.vr_state.specs.declared.message.PeerMessage.{PeerMessage}
use Rattle.vr_state.specs.declared.message.PeerMessage.TheVariants.{Prepare, PrepareOk, Commit, StartViewChange, DoViewChange, StartView, GetState}
use Rattle.vr_state.specs.declared.message.PeerMessage.TheVariants.{NewState, Recovery, RecoveryResponse}
use Rattle.vr_state.specs.declared.message.Snapshot.{Snapshot}
use Rattle.vr_wire.specs.Frames.{AreEntriesInRange, IsInRange, IsLogInRange, IsPerhapsInRange, frame_octets, limit}
use Rattle.vr_wire.specs.Laws.{AreUpdatesInRange, perhaps_records, records_of}
use Rattle.vr_wire.specs.Parts.{AreFramesOf, IsSaying, TellMessage, saying_octets}
use Rattle.vr_wire.specs.Payloads.{AreEntriesOf, IsFrame, IsMessageOf, IsPerhapsOf, written, written_entry, written_log, written_perhaps}
use Rattle.vr_wire.specs.declared.error.WireError.{WireError}
use Rattle.vr_wire.specs.private.Fitting.{CanBeSpelled, IsSpelled, LogIs, MessageIs, PerhapsIs}
use Rattle.vr_wire.specs.private.Parts.{CutsFrames}
use Rattle.vr_wire.specs.private.Putting.{Writes}

-- ---- what is spelled is in range

entries_range : (es : List (LogEntry OpValue)) → AllByRecursion IsSpelled es → AreEntriesInRange (written_log es)
entries_range [] h = tt
entries_range (e ∷ es) h = (h.0.range, entries_range es h.1)

entries_are : (es : List (LogEntry OpValue)) → AllByRecursion IsSpelled es → AreEntriesOf es (written_log es)
entries_are [] h = tt
entries_are (e ∷ es) h =
    (record { client = refl; request_number = refl; payload = h.0.payload }, entries_are es h.1)

log_range : (es : List (LogEntry OpValue)) → LogIs IsSpelled es → IsLogInRange (written_log es)
log_range es h = (omega (arith, h.0, length-map es written_entry), entries_range es h.1)

perhaps_range : (o : Option (Snapshot OpValue)) → PerhapsIs IsSpelled o → IsPerhapsInRange (written_perhaps o)
perhaps_range None h = tt
perhaps_range (Some held) h = (h.0, log_range held.log h.1)

perhaps_are : (o : Option (Snapshot OpValue)) → PerhapsIs IsSpelled o → IsPerhapsOf o (written_perhaps o)
perhaps_are None h = tt
perhaps_are (Some held) h = record { log = entries_are held.log h.1.1; commit_number = refl }

-- What is spelled of a message is in range,
pub message_range : (m : PeerMessage OpValue) → MessageIs IsSpelled m → IsInRange (written m)
message_range (Prepare v e p k) h = (h.0, h.1, h.2, h.3.range)
message_range (PrepareOk v p) h = h
message_range (Commit v k) h = h
message_range (StartViewChange v) h = h
message_range (DoViewChange v c) h = (h.0, h.1, h.2, log_range c.log h.3)
message_range (StartView v held) h = (h.0, (h.1.0, log_range held.log h.1.1))
message_range (Recovery x) h = h
message_range (RecoveryResponse x a) h = (h.0, h.1, perhaps_range a.held h.2)
message_range (GetState v k) h = h
message_range (NewState v x tail) h = (h.0, h.2.0, h.1, log_range tail.log h.2.1)

-- and read as it.
pub message_is : (m : PeerMessage OpValue) → MessageIs IsSpelled m → IsMessageOf m (written m)
message_is (Prepare v e p k) h =
    (refl, record { client = refl; request_number = refl; payload = h.3.payload }, refl, refl)
message_is (PrepareOk v p) h = (refl, refl)
message_is (Commit v k) h = (refl, refl)
message_is (StartViewChange v) h = refl
message_is (DoViewChange v c) h =
    (refl, record { log = entries_are c.log h.3.1; last_normal_view = refl; commit_number = refl })
message_is (StartView v held) h = (refl, record { log = entries_are held.log h.1.1.1; commit_number = refl })
message_is (Recovery x) h = refl
message_is (RecoveryResponse x a) h = (refl, record { view_number = refl; held = perhaps_are a.held h.2 })
message_is (GetState v k) h = (refl, refl)
message_is (NewState v x tail) h =
    (refl, refl, record { log = entries_are tail.log h.2.1.1; commit_number = refl })

-- ---- what is in range can be spelled

entries_can : (es : List (LogEntry OpValue)) → AreEntriesInRange (written_log es) → AreUpdatesInRange es →
    AllByRecursion CanBeSpelled es
entries_can [] h u = tt
entries_can (e ∷ es) h u = (record { range = h.0; update = u.0 }, entries_can es h.1 u.1)

log_can : (es : List (LogEntry OpValue)) → IsLogInRange (written_log es) → AreUpdatesInRange es → LogIs CanBeSpelled es
log_can es h u = (omega (arith, h.0, length-map es written_entry), entries_can es h.1 u)

perhaps_can : (o : Option (Snapshot OpValue)) → IsPerhapsInRange (written_perhaps o) →
    AreUpdatesInRange (perhaps_records o) → PerhapsIs CanBeSpelled o
perhaps_can None h u = tt
perhaps_can (Some held) h u = (h.0, log_can held.log h.1 u)

-- A message in range can be spelled.
pub message_can : (m : PeerMessage OpValue) → IsInRange (written m) → AreUpdatesInRange (records_of m) →
    MessageIs CanBeSpelled m
message_can (Prepare v e p k) h u = (h.0, h.1, h.2, record { range = h.3; update = u.0 })
message_can (PrepareOk v p) h u = h
message_can (Commit v k) h u = h
message_can (StartViewChange v) h u = h
message_can (DoViewChange v c) h u = (h.0, h.1, h.2, log_can c.log h.3 u)
message_can (StartView v held) h u = (h.0, (h.1.0, log_can held.log h.1.1 u))
message_can (Recovery x) h u = h
message_can (RecoveryResponse x a) h u = (h.0, h.1, perhaps_can a.held h.2 u)
message_can (GetState v k) h u = h
message_can (NewState v x tail) h u = (h.0, h.2, (h.1, log_can tail.log h.3 u))

-- ---- frames of a message that is spelled

-- Its spelling is a frame of it,
pub frame_is : (cluster sender : ℕ) (m : PeerMessage OpValue) (octets : List ℕ) → IsCluster cluster →
    MessageIs IsSpelled m → octets ≡ frame_octets cluster sender (written m) → length octets ≤ limit →
    IsFrame cluster sender m octets
frame_is cluster sender m octets is h spelled small = record {
  raw = written m;
  spelled = spelled;
  cluster_is = is;
  range = message_range m h;
  payloads = message_is m h;
  small = small;
}

-- and its frames tell it.
pub frames_tell : (most size cluster sender number : ℕ) (m : PeerMessage OpValue) (frames : List (List ℕ)) →
    IsCluster cluster → MessageIs IsSpelled m → AreFramesOf most size cluster sender number (written m) frames →
    TellMessage cluster sender number m frames
frames_tell most size cluster sender number m frames is h are =
    elim (cases_lt most (length (frame_octets cluster sender (written m)))) [
      | inl over ↦ inr (saying_octets (written m), said, are.parts over)
      | inr fits ↦ inl (frame_octets cluster sender (written m), are.plain fits, plain (are.plain fits))
    ]
  where
    said : IsSaying m (saying_octets (written m))
    said = record { raw = written m; spelled = refl; range = message_range m h; payloads = message_is m h }

    plain : frames ≡ frame_octets cluster sender (written m) ∷ [] →
        IsFrame cluster sender m (frame_octets cluster sender (written m))
    plain one = frame_is cluster sender m (frame_octets cluster sender (written m)) is h refl
        (subst (AllByRecursion (λ f. length f ≤ limit)) one are.small).0

-- ---- what is made of a message that can be spelled

-- What is written is a frame of it,
pub frame_made : (cluster sender : ℕ) (m : PeerMessage OpValue) (r : Result (Vec ℕ Global) WireError) →
    IsCluster cluster → MessageIs IsSpelled m →
    Writes (λ (v : Vec ℕ Global). v.items) r (frame_octets cluster sender (written m)) →
    IfOk r (λ v. length v.items ≤ limit) → IfOk r (λ v. IsFrame cluster sender m v.items)
frame_made cluster sender m (Ok v) is h spelled small = frame_is cluster sender m v.items is h spelled small
frame_made cluster sender m (Err e) is h spelled small = tt

-- and the frames tell it.
pub frames_made : (most size cluster sender number : ℕ) (m : PeerMessage OpValue)
    (r : Result (List (List ℕ)) WireError) → IsCluster cluster → MessageIs IsSpelled m →
    CutsFrames most size cluster sender number (written m) r → IfOk r (TellMessage cluster sender number m)
frames_made most size cluster sender number m (Ok frames) is h made = frames_tell most size cluster sender number m
    frames is h made
frames_made most size cluster sender number m (Err e) is h made = tt
