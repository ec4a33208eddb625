-- Frames: octets are a frame of one message at most, no frame begins another, and what is written is a frame.
use Rattle.std.proofs.Common.{◌≡◌, ◌^◌, ◌<◌, ◌≤◌, ℕ, List, [], ◌∷◌, ◌++◌, length, Option, Some, None, refl, sym, ap, subst, ◌∙◌, append_assoc}
use Rattle.std.proofs.Common.{arith}
use Rattle.std.proofs.lemmas.List.{nil_from_length, length-append}
use Rattle.ldap_op.specs.Values.{OpValue}
use Rattle.ldap_op.specs.Grammar.{IsOp}
use Rattle.ldap_op.specs.Written.{op_content, op_bytes, IsOpInRange}
use Rattle.vr_state.specs.Words.{Client}
use Rattle.vr_state.specs.Words.{LogEntry}
use Rattle.vr_state.specs.declared.message.Change.{Change}
use Rattle.vr_state.specs.declared.message.Response.{Response}
use Rattle.vr_state.specs.declared.message.Snapshot.{Snapshot}
use Rattle.vr_state.specs.declared.message.PeerMessage.{PeerMessage}
use Rattle.vr_state.specs.declared.message.PeerMessage.TheVariants.{Prepare, PrepareOk, Commit, StartViewChange, DoViewChange, StartView, GetState}
use Rattle.vr_state.specs.declared.message.PeerMessage.TheVariants.{NewState, Recovery, RecoveryResponse}
use Rattle.vr_wire.specs.Frames.{short, rest_octets, limit, IsInRange, IsEntryInRange, AreEntriesInRange, IsPerhapsInRange}
use Rattle.vr_wire.specs.private.Cutting.{cut_short}
use Rattle.vr_wire.specs.Payloads.{IsEntryOf, AreEntriesOf, IsHeldOf, IsChangeOf, IsPerhapsOf, IsResponseOf, IsMessageOf, written_entry}
use Rattle.vr_wire.specs.Payloads.{written_log, written_perhaps, written}
use Rattle.vr_wire.specs.Laws.{FramesHaveOneMessage, NoFrameBeginsAnother, WrittenIsFrame, perhaps_records, records_of, AreUpdatesInRange}
use Rattle.vr_wire.proofs.Fields.{some_is, short_again}
use Rattle.vr_wire.proofs.FrameLaws.{is_cut}
use Rattle.vr_wire.proofs.PutLaws.{content_shorter}

-- ---- one message

abbrev pub OneUpdate : Type 0
OneUpdate = (op other : OpValue) (octets : List ℕ) → IsOp op octets → IsOp other octets → op ≡ other

abbrev entry_made : Client → ℕ → OpValue → LogEntry OpValue
entry_made c n p = record { client = c; request_number = n; payload = p }

one_entry : OneUpdate → (e f : LogEntry OpValue) (raw : LogEntry (List ℕ)) → IsEntryOf e raw → IsEntryOf f raw → e ≡ f
one_entry one e f raw p q =
    ap (λ (c : Client). entry_made c e.request_number e.payload) (p.client ∙ sym q.client)
    ∙ ap (λ (n : ℕ). entry_made f.client n e.payload) (p.request_number ∙ sym q.request_number)
    ∙ ap (λ (o : OpValue). entry_made f.client f.request_number o) (one e.payload f.payload raw.payload p.payload
    q.payload)

one_log : OneUpdate → (raws : List (LogEntry (List ℕ))) (es fs : List (LogEntry OpValue)) → AreEntriesOf es raws →
    AreEntriesOf fs raws → es ≡ fs
one_log one [] [] [] p q = refl
one_log one [] [] (f ∷ fs) p q = absurd q
one_log one [] (e ∷ es) fs p q = absurd p
one_log one (raw ∷ raws) [] fs p q = absurd p
one_log one (raw ∷ raws) (e ∷ es) [] p q = absurd q
one_log one (raw ∷ raws) (e ∷ es) (f ∷ fs) p q =
    ap (λ (x : LogEntry OpValue). x ∷ es) (one_entry one e f raw p.0 q.0)
    ∙ ap (λ (l : List (LogEntry OpValue)). f ∷ l) (one_log one raws es fs p.1 q.1)

abbrev held_made : List (LogEntry OpValue) → ℕ → Snapshot OpValue
held_made l k = record { log = l; commit_number = k }

one_held : OneUpdate → (raw : Snapshot (List ℕ)) (h g : Snapshot OpValue) → IsHeldOf h raw → IsHeldOf g raw → h ≡ g
one_held one raw h g p q =
    ap (λ (l : List (LogEntry OpValue)). held_made l h.commit_number) (one_log one raw.log h.log g.log p.log q.log)
    ∙ ap (λ (k : ℕ). held_made g.log k) (p.commit_number ∙ sym q.commit_number)

abbrev change_made : List (LogEntry OpValue) → ℕ → ℕ → Change OpValue
change_made l v k = record { log = l; last_normal_view = v; commit_number = k }

one_change : OneUpdate → (raw : Change (List ℕ)) (h g : Change OpValue) → IsChangeOf h raw → IsChangeOf g raw → h ≡ g
one_change one raw h g p q =
    ap (λ (l : List (LogEntry OpValue)). change_made l h.last_normal_view h.commit_number)
    (one_log one raw.log h.log g.log p.log q.log)
    ∙ ap (λ (v : ℕ). change_made g.log v h.commit_number) (p.last_normal_view ∙ sym q.last_normal_view)
    ∙ ap (λ (k : ℕ). change_made g.log g.last_normal_view k) (p.commit_number ∙ sym q.commit_number)

one_perhaps : OneUpdate → (raw : Option (Snapshot (List ℕ))) (h g : Option (Snapshot OpValue)) → IsPerhapsOf h raw →
    IsPerhapsOf g raw → h ≡ g
one_perhaps one None None None p q = refl
one_perhaps one None None (Some g) p q = absurd q
one_perhaps one None (Some h) g p q = absurd p
one_perhaps one (Some raw) None g p q = absurd p
one_perhaps one (Some raw) (Some h) None p q = absurd q
one_perhaps one (Some raw) (Some h) (Some g) p q = ap (λ (x : Snapshot OpValue). Some x) (one_held one raw h g p q)

abbrev response_made : ℕ → Option (Snapshot OpValue) → Response OpValue
response_made v h = record { view_number = v; held = h }

one_response : OneUpdate → (raw : Response (List ℕ)) (h g : Response OpValue) → IsResponseOf h raw →
    IsResponseOf g raw → h ≡ g
one_response one raw h g p q =
    ap (λ (v : ℕ). response_made v h.held) (p.view_number ∙ sym q.view_number)
    ∙ ap (λ (o : Option (Snapshot OpValue)). response_made g.view_number o) (one_perhaps one raw.held h.held g.held
    p.held q.held)

to_prepare : (v : ℕ) (raw : LogEntry (List ℕ)) (p k : ℕ) (m : PeerMessage OpValue) →
    IsMessageOf m (Prepare v raw p k) → (e : LogEntry OpValue) × IsEntryOf e raw × (m ≡ Prepare v e p k)
to_prepare v raw p k (Prepare w e q l) h = let same : Prepare w e q l ≡ Prepare v e p k = cc in (e, h.1, same)
to_prepare v raw p k m h = absurd h

to_prepare_ok : (v p : ℕ) (m : PeerMessage OpValue) → IsMessageOf m (PrepareOk v p) → m ≡ PrepareOk v p
to_prepare_ok v p (PrepareOk w q) h = cc
to_prepare_ok v p m h = absurd h

to_commit : (v k : ℕ) (m : PeerMessage OpValue) → IsMessageOf m (Commit v k) → m ≡ Commit v k
to_commit v k (Commit w l) h = cc
to_commit v k m h = absurd h

to_start_view_change : (v : ℕ) (m : PeerMessage OpValue) → IsMessageOf m (StartViewChange v) → m ≡ StartViewChange v
to_start_view_change v (StartViewChange w) h = cc
to_start_view_change v m h = absurd h

to_do_view_change : (v : ℕ) (raw : Change (List ℕ)) (m : PeerMessage OpValue) → IsMessageOf m (DoViewChange v raw) →
    (c : Change OpValue) × IsChangeOf c raw × (m ≡ DoViewChange v c)
to_do_view_change v raw (DoViewChange w c) h = let same : DoViewChange w c ≡ DoViewChange v c = cc in (c, h.1, same)
to_do_view_change v raw m h = absurd h

to_start_view : (v : ℕ) (raw : Snapshot (List ℕ)) (m : PeerMessage OpValue) → IsMessageOf m (StartView v raw) →
    (g : Snapshot OpValue) × IsHeldOf g raw × (m ≡ StartView v g)
to_start_view v raw (StartView w g) h = let same : StartView w g ≡ StartView v g = cc in (g, h.1, same)
to_start_view v raw m h = absurd h

to_recovery : (x : ℕ) (m : PeerMessage OpValue) → IsMessageOf m (Recovery x) → m ≡ Recovery x
to_recovery x (Recovery y) h = cc
to_recovery x m h = absurd h

to_recovery_response : (x : ℕ) (raw : Response (List ℕ)) (m : PeerMessage OpValue) →
    IsMessageOf m (RecoveryResponse x raw) → (a : Response OpValue) × IsResponseOf a raw × (m ≡ RecoveryResponse x a)
to_recovery_response x raw (RecoveryResponse y a) h = let same : RecoveryResponse y a ≡ RecoveryResponse x a =
    cc in (a, h.1, same)
to_recovery_response x raw m h = absurd h

to_get_state : (v k : ℕ) (m : PeerMessage OpValue) → IsMessageOf m (GetState v k) → m ≡ GetState v k
to_get_state v k (GetState w l) h = cc
to_get_state v k m h = absurd h

to_new_state : (v x : ℕ) (raw : Snapshot (List ℕ)) (m : PeerMessage OpValue) → IsMessageOf m (NewState v x raw) →
    (g : Snapshot OpValue) × IsHeldOf g raw × (m ≡ NewState v x g)
to_new_state v x raw (NewState w y g) h = let same : NewState w y g ≡ NewState v x g = cc in (g, h.2, same)
to_new_state v x raw m h = absurd h

pub one_message : OneUpdate → (raw : PeerMessage (List ℕ)) (m n : PeerMessage OpValue) → IsMessageOf m raw →
    IsMessageOf n raw → m ≡ n
one_message one (Prepare v raw p k) m n h g =
    let a = to_prepare v raw p k m h in
    let b = to_prepare v raw p k n g in
    a.2 ∙ ap (λ (e : LogEntry OpValue). Prepare v e p k) (one_entry one a.0 b.0 raw a.1 b.1) ∙ sym b.2
one_message one (PrepareOk v p) m n h g = to_prepare_ok v p m h ∙ sym (to_prepare_ok v p n g)
one_message one (Commit v k) m n h g = to_commit v k m h ∙ sym (to_commit v k n g)
one_message one (StartViewChange v) m n h g = to_start_view_change v m h ∙ sym (to_start_view_change v n g)
one_message one (DoViewChange v raw) m n h g =
    let a = to_do_view_change v raw m h in
    let b = to_do_view_change v raw n g in
    a.2 ∙ ap (λ (c : Change OpValue). DoViewChange v c) (one_change one raw a.0 b.0 a.1 b.1) ∙ sym b.2
one_message one (StartView v raw) m n h g =
    let a = to_start_view v raw m h in
    let b = to_start_view v raw n g in
    a.2 ∙ ap (λ (x : Snapshot OpValue). StartView v x) (one_held one raw a.0 b.0 a.1 b.1) ∙ sym b.2
one_message one (Recovery x) m n h g = to_recovery x m h ∙ sym (to_recovery x n g)
one_message one (RecoveryResponse x raw) m n h g =
    let a = to_recovery_response x raw m h in
    let b = to_recovery_response x raw n g in
    a.2 ∙ ap (λ (y : Response OpValue). RecoveryResponse x y) (one_response one raw a.0 b.0 a.1 b.1) ∙ sym b.2
one_message one (GetState v k) m n h g = to_get_state v k m h ∙ sym (to_get_state v k n g)
one_message one (NewState v x raw) m n h g =
    let a = to_new_state v x raw m h in
    let b = to_new_state v x raw n g in
    a.2 ∙ ap (λ (y : Snapshot OpValue). NewState v x y) (one_held one raw a.0 b.0 a.1 b.1) ∙ sym b.2

abbrev cut_of : ℕ → ℕ → PeerMessage (List ℕ) → ℕ × (ℕ × PeerMessage (List ℕ))
cut_of cluster sender raw = (cluster, (sender, raw))

pub one_frame : OneUpdate → FramesHaveOneMessage
one_frame one octets cluster sender m other speaker n f g =
    let same : cut_of cluster sender f.raw ≡ cut_of other speaker g.raw = some_is (cut_of cluster sender f.raw)
    (cut_of other speaker g.raw) (sym (is_cut octets cluster sender m f) ∙ is_cut octets other speaker n g) in
    let raws : f.raw ≡ g.raw = ap (λ (y : ℕ × (ℕ × PeerMessage (List ℕ))). y.1.1) same in (
      ap (λ (y : ℕ × (ℕ × PeerMessage (List ℕ))). y.0) same,
      ap (λ (y : ℕ × (ℕ × PeerMessage (List ℕ))). y.1.0) same,
      one_message one g.raw m n (subst (λ (r : PeerMessage (List ℕ)). IsMessageOf m r) raws f.payloads) g.payloads,
    )

-- ---- no beginning

-- of two lists that begin with their own lengths, none goes on after the other
sized_alone : (first second more : List ℕ) → length first < 2 ^ 32 → length second < 2 ^ 32 →
    (short (length first) ++ first) ++ more ≡ short (length second) ++ second → more ≡ []
sized_alone first second more small other e =
    let cut : Option (ℕ × List ℕ) = Some (length first, first ++ more) in
    let one : cut_short (short (length second) ++ second) ≡ cut =
    ap cut_short (sym e ∙ append_assoc (short (length first)) first more) ∙ short_again (length first) (first ++ more)
    small in
    let same = some_is (length first, first ++ more) (length second, second) (sym one ∙ short_again (length second)
    second other) in
    let count : length first ≡ length second = ap (λ (y : ℕ × List ℕ). y.0) same in
    let rest : length (first ++ more) ≡ length second = ap (λ (y : ℕ × List ℕ). length y.1) same in
    nil_from_length more (omega (arith, count, rest, length-append first more))

rest_small : (octets rest : List ℕ) → octets ≡ short (length rest) ++ rest → length octets ≤ limit →
    length rest < 2 ^ 32
rest_small octets rest e le = omega (arith, ap length e, length-append (short (length rest)) rest, le)

pub no_beginning : NoFrameBeginsAnother
no_beginning octets more cluster sender m other speaker n f g =
    let first = rest_octets cluster sender f.raw in
    let second = rest_octets other speaker g.raw in
    sized_alone first second more (rest_small octets first f.spelled f.small) (rest_small (octets ++ more) second
    g.spelled g.small)
    (ap (λ (l : List ℕ). l ++ more) (sym f.spelled) ∙ g.spelled)

-- ---- what is written

abbrev pub UpdatesAreWritten : Type 0
UpdatesAreWritten = (op : OpValue) → IsOpInRange op → length (op_content op) < 2 ^ 32 → IsOp op (op_bytes op)

entry_written : UpdatesAreWritten → (e : LogEntry OpValue) → IsEntryInRange (written_entry e) →
    IsOpInRange e.payload → IsEntryOf e (written_entry e)
entry_written is e h u =
    record {
      client = refl;
      request_number = refl;
      payload = is e.payload u
          (omega (arith, content_shorter e.payload, h.payload));
    }

log_written : UpdatesAreWritten → (es : List (LogEntry OpValue)) → AreEntriesInRange (written_log es) →
    AreUpdatesInRange es → AreEntriesOf es (written_log es)
log_written is [] h u = tt
log_written is (e ∷ es) h u = (entry_written is e h.0 u.0, log_written is es h.1 u.1)

perhaps_written : UpdatesAreWritten → (o : Option (Snapshot OpValue)) → IsPerhapsInRange (written_perhaps o) →
    AreUpdatesInRange (perhaps_records o) → IsPerhapsOf o (written_perhaps o)
perhaps_written is None h u = tt
perhaps_written is (Some held) h u = record { log = log_written is held.log h.1.1 u; commit_number = refl }

pub message_written : UpdatesAreWritten → (m : PeerMessage OpValue) → IsInRange (written m) →
    AreUpdatesInRange (records_of m) → IsMessageOf m (written m)
message_written is (Prepare v e p k) h u = (refl, entry_written is e h.3 u.0, refl, refl)
message_written is (PrepareOk v p) h u = (refl, refl)
message_written is (Commit v k) h u = (refl, refl)
message_written is (StartViewChange v) h u = refl
message_written is (DoViewChange v c) h u = (
  refl,
  record {
    log = log_written is c.log h.3.1 u;
    last_normal_view =
        refl;
    commit_number = refl;
  },
)
message_written is (StartView v held) h u = (
  refl,
  record {
    log = log_written is held.log h.1.1.1 u;
    commit_number =
        refl;
  },
)
message_written is (Recovery x) h u = refl
message_written is (RecoveryResponse x a) h u =
    (refl, record { view_number = refl; held = perhaps_written is a.held h.2 u })
message_written is (GetState v k) h u = (refl, refl)
message_written is (NewState v x tail) h u =
    (refl, refl, record { log = log_written is tail.log h.3.1 u; commit_number = refl })

pub is_frame : UpdatesAreWritten → WrittenIsFrame
is_frame is cluster sender m h =
    record {
      raw = written m;
      spelled = refl;
      cluster_is = h.cluster_is;
      range = h.range;
      payloads = message_written
          is m h.range h.updates;
      small = h.small;
    }
