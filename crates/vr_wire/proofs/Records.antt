-- Frames: what is cut from the front is what was spelled, and what was spelled is cut again: clients, records, logs.
use Rattle.std.proofs.Common.{◌≡◌, ℕ, zero, suc, ◌^◌, ◌<◌, ◌==◌, not, ◌&&◌, Bool, true, false, List, [], ◌∷◌, ◌++◌}
use Rattle.std.proofs.Common.{length, Some, refl, sym, ap, subst, ◌∙◌, append_assoc, arith, eq-eqb, eqb-true}
use Rattle.std.proofs.Common.{true≢false}
use Rattle.vr_state.specs.Words.{Client}
use Rattle.vr_state.specs.Words.{LogEntry}
use Rattle.vr_state.specs.declared.message.Snapshot.{Snapshot}
use Rattle.vr_wire.specs.Frames.{number, short, client_octets, payload_octets, entry_octets, entries_octets, log_octets, held_octets}
use Rattle.vr_wire.specs.Frames.{IsClientInRange, IsEntryInRange, AreEntriesInRange, IsLogInRange, IsHeldInRange}
use Rattle.vr_wire.specs.private.Cutting.{then, cut_octet, cut_octets, cut_number, cut_short, known_client, cut_client, cut_payload, cut_entry, cut_entries}
use Rattle.vr_wire.specs.private.Cutting.{cut_log, cut_held}
use Rattle.vr_wire.proofs.Fields.{IsBytes, then_some, guard_none, some_is, Takes, Takes-then, octet_takes, octet_again, octets_take}
use Rattle.vr_wire.proofs.Fields.{octets_again, number_takes, number_again, short_takes, short_again}

-- ---- clients

both_true : (a b : Bool) → (a && not b) ≡ false → a ≡ true → b ≡ true
both_true true true e h = refl
both_true true false e h = sym e
both_true false b e h = absurd (true≢false (sym h))

named_by : (home life : ℕ) → (home == 0 && not (life == 0)) ≡ false → home ≡ 0 → life ≡ 0
named_by home life e h = eqb-true life 0 (both_true (home == 0) (life == 0) e (eq-eqb home 0 h))

one_false : (a b : Bool) → (a ≡ true → b ≡ true) → (a && not b) ≡ false
one_false true b h = ap not (h refl)
one_false false b h = refl

named_again : (home life : ℕ) → (home ≡ 0 → life ≡ 0) → (home == 0 && not (life == 0)) ≡ false
named_again home life h = one_false (home == 0) (life == 0) (λ e. eq-eqb life 0 (h (eqb-true home 0 e)))

pub client_takes : (bytes : List ℕ) (x : Client × List ℕ) → IsBytes bytes → cut_client bytes ≡ Some x →
    Takes bytes (client_octets x.0) x.1 × IsClientInRange x.0
unfolding cut_client
client_takes bytes x fits e =
    let a = then_some (cut_octet bytes)
    (λ h. then (cut_number h.1) (λ l. then (cut_number l.1) (λ n. known_client h.0 l.0 n.0 n.1))) x e in
    let b = then_some (cut_number a.0.1) (λ l. then (cut_number l.1) (λ n. known_client a.0.0 l.0 n.0 n.1)) x a.2 in
    let c = then_some (cut_number b.0.1) (λ n. known_client a.0.0 b.0.0 n.0 n.1) x b.2 in
    let made : Client × List ℕ = (record { home = a.0.0; life = b.0.0; number = c.0.0 }, c.0.1) in
    let g = guard_none (a.0.0 == 0 && not (b.0.0 == 0)) made x c.2 in
    let t0 = octet_takes bytes a.0 fits a.1 in
    let t1 = number_takes a.0.1 b.0 t0.rest_fits b.1 in
    let t2 = number_takes b.0.1 c.0 t1.0.rest_fits c.1 in
    let t12 = Takes-then a.0.1 (number b.0.0) b.0.1 (number c.0.0) c.0.1 t1.0 t2.0 in
    let all = Takes-then bytes (a.0.0 ∷ []) a.0.1 (number b.0.0 ++ number c.0.0) c.0.1 t0 t12 in
    subst (λ (y : Client × List ℕ). Takes bytes (client_octets y.0) y.1 × IsClientInRange y.0) g.1
    (all, record { life = t1.1; number_is = t2.1; named = named_by a.0.0 b.0.0 g.0 })

pub client_again : (c : Client) (rest : List ℕ) → IsClientInRange c → cut_client (client_octets c ++ rest) ≡
    Some (c, rest)
unfolding cut_client
client_again c rest h =
    let regrouped : client_octets c ++ rest ≡ c.home ∷ (number c.life ++ (number c.number ++ rest)) =
    ap (λ (l : List ℕ). c.home ∷ l) (append_assoc (number c.life) (number c.number) rest) in
    ap cut_client regrouped
    ∙ rw (
      octet_again c.home (number c.life ++ (number c.number ++ rest)),
      number_again c.life (number
          c.number ++ rest) h.life,
      number_again c.number rest h.number_is,
      named_again c.home c.life h.named,
    ) refl

-- ---- payloads

pub payload_takes : (bytes : List ℕ) (x : List ℕ × List ℕ) → IsBytes bytes → cut_payload bytes ≡ Some x →
    Takes bytes (payload_octets x.0) x.1 × (length x.0 < 2 ^ 32)
unfolding cut_payload
payload_takes bytes x fits e =
    let a = then_some (cut_short bytes) (λ n. cut_octets n.0 n.1) x e in
    let t0 = short_takes bytes a.0 fits a.1 in
    let t1 = octets_take a.0.0 a.0.1 x t0.0.rest_fits a.2 in
    let all = Takes-then bytes (short a.0.0) a.0.1 x.0 x.1 t0.0 t1.0 in
    (subst (λ (n : ℕ). Takes bytes (short n ++ x.0) x.1) (sym t1.1) all, omega (arith, t0.1, t1.1))

pub payload_again : (p rest : List ℕ) → length p < 2 ^ 32 → cut_payload (payload_octets p ++ rest) ≡ Some (p, rest)
unfolding cut_payload
payload_again p rest lt =
    ap cut_payload (append_assoc (short (length p)) p rest)
    ∙ rw (short_again (length p) (p ++ rest) lt, octets_again (length p) p rest refl) refl

-- ---- records

pub entry_takes : (bytes : List ℕ) (x : LogEntry (List ℕ) × List ℕ) → IsBytes bytes → cut_entry bytes ≡ Some x →
    Takes bytes (entry_octets x.0) x.1 × IsEntryInRange x.0
unfolding cut_entry
entry_takes bytes x fits e =
    let a = then_some (cut_client bytes)
    (λ c. then (cut_number c.1)
    (λ s. then (cut_payload s.1)
    (λ p. Some (record { client = c.0; request_number = s.0; payload = p.0 }, p.1)))) x e in
    let b = then_some (cut_number a.0.1)
    (λ s. then (cut_payload s.1)
    (λ p. Some (record { client = a.0.0; request_number = s.0; payload = p.0 }, p.1))) x a.2 in
    let c = then_some (cut_payload b.0.1)
    (λ p. Some (record { client = a.0.0; request_number = b.0.0; payload = p.0 }, p.1)) x b.2 in
    let made : LogEntry (List ℕ)
    × List ℕ = (record { client = a.0.0; request_number = b.0.0; payload = c.0.0 }, c.0.1) in
    let t0 = client_takes bytes a.0 fits a.1 in
    let t1 = number_takes a.0.1 b.0 t0.0.rest_fits b.1 in
    let t2 = payload_takes b.0.1 c.0 t1.0.rest_fits c.1 in
    let t12 = Takes-then a.0.1 (number b.0.0) b.0.1 (payload_octets c.0.0) c.0.1 t1.0 t2.0 in
    let all = Takes-then bytes (client_octets a.0.0) a.0.1 (number b.0.0 ++ payload_octets c.0.0) c.0.1 t0.0 t12 in
    subst (λ (y : LogEntry (List ℕ) × List ℕ). Takes bytes (entry_octets y.0) y.1 × IsEntryInRange y.0)
    (some_is made x c.2)
    (all, record { client = t0.1; request = t1.1; payload = t2.1 })

pub entry_again : (e : LogEntry (List ℕ)) (rest : List ℕ) → IsEntryInRange e → cut_entry (entry_octets e ++ rest) ≡
    Some (e, rest)
unfolding cut_entry
entry_again e rest h =
    let regrouped : entry_octets e ++ rest ≡ client_octets
    e.client ++ (number e.request_number ++ (payload_octets e.payload ++ rest)) =
    append_assoc (client_octets e.client) (number e.request_number ++ payload_octets e.payload) rest
    ∙ ap (λ (l : List ℕ). client_octets e.client ++ l) (append_assoc (number e.request_number)
    (payload_octets e.payload) rest) in
    ap cut_entry regrouped
    ∙ rw (
      client_again e.client (number e.request_number ++ (payload_octets
          e.payload ++ rest)) h.client,
      number_again e.request_number (payload_octets e.payload ++ rest) h.request,
      payload_again e.payload rest h.payload,
    ) refl

pub entries_take : (n : ℕ) (bytes : List ℕ) (x : List (LogEntry (List ℕ)) × List ℕ) → IsBytes bytes →
    cut_entries n bytes ≡ Some x → Takes bytes (entries_octets x.0) x.1 × (length x.0 ≡ n) × AreEntriesInRange x.0
entries_take zero bytes x fits e =
    subst (λ (y : List (LogEntry (List ℕ)) × List ℕ). Takes bytes (entries_octets y.0) y.1 × (length y.0 ≡ 0)
    × AreEntriesInRange y.0) (some_is ([], bytes) x e) (record { parts = refl; rest_fits = fits }, refl, tt)
entries_take (suc n) bytes x fits e =
    let a = then_some (cut_entry bytes) (λ f. then (cut_entries n f.1) (λ es. Some (f.0 ∷ es.0, es.1))) x e in
    let b = then_some (cut_entries n a.0.1) (λ es. Some (a.0.0 ∷ es.0, es.1)) x a.2 in
    let first = entry_takes bytes a.0 fits a.1 in
    let second = entries_take n a.0.1 b.0 first.0.rest_fits b.1 in
    let both = Takes-then bytes (entry_octets a.0.0) a.0.1 (entries_octets b.0.0) b.0.1 first.0 second.0 in
    let made : List (LogEntry (List ℕ)) × List ℕ = (a.0.0 ∷ b.0.0, b.0.1) in
    subst (λ (y : List (LogEntry (List ℕ)) × List ℕ). Takes bytes (entries_octets y.0) y.1 × (length y.0 ≡ suc n)
    × AreEntriesInRange y.0) (some_is made x b.2) (both, ap suc second.1, (first.1, second.2))

pub entries_again : (es : List (LogEntry (List ℕ))) (rest : List ℕ) → AreEntriesInRange es →
    cut_entries (length es) (entries_octets es ++ rest) ≡ Some (es, rest)
entries_again [] rest h = refl
entries_again (e ∷ es) rest h =
    ap (cut_entries (suc (length es))) (append_assoc (entry_octets e) (entries_octets es) rest)
    ∙ rw (entry_again e (entries_octets es ++ rest) h.0, entries_again es rest h.1) refl

pub log_takes : (bytes : List ℕ) (x : List (LogEntry (List ℕ)) × List ℕ) → IsBytes bytes → cut_log bytes ≡ Some x →
    Takes bytes (log_octets x.0) x.1 × IsLogInRange x.0
unfolding cut_log
log_takes bytes x fits e =
    let a = then_some (cut_short bytes) (λ n. cut_entries n.0 n.1) x e in
    let t0 = short_takes bytes a.0 fits a.1 in
    let t1 = entries_take a.0.0 a.0.1 x t0.0.rest_fits a.2 in
    let all = Takes-then bytes (short a.0.0) a.0.1 (entries_octets x.0) x.1 t0.0 t1.0 in (
      subst (λ (n : ℕ). Takes bytes (short n ++ entries_octets x.0) x.1) (sym
          t1.1) all,
      (omega (arith, t0.1, t1.1), t1.2),
    )

pub log_again : (es : List (LogEntry (List ℕ))) (rest : List ℕ) → IsLogInRange es → cut_log (log_octets es ++ rest) ≡
    Some (es, rest)
unfolding cut_log
log_again es rest h =
    ap cut_log (append_assoc (short (length es)) (entries_octets es) rest)
    ∙ rw (short_again (length es) (entries_octets es ++ rest) h.0, entries_again es rest h.1) refl

pub held_takes : (bytes : List ℕ) (x : Snapshot (List ℕ) × List ℕ) → IsBytes bytes → cut_held bytes ≡ Some x →
    Takes bytes (held_octets x.0) x.1 × IsHeldInRange x.0
unfolding cut_held
held_takes bytes x fits e =
    let a = then_some (cut_number bytes)
    (λ k. then (cut_log k.1) (λ l. Some (record { log = l.0; commit_number = k.0 }, l.1))) x e in
    let b = then_some (cut_log a.0.1) (λ l. Some (record { log = l.0; commit_number = a.0.0 }, l.1)) x a.2 in
    let made : Snapshot (List ℕ) × List ℕ = (record { log = b.0.0; commit_number = a.0.0 }, b.0.1) in
    let t0 = number_takes bytes a.0 fits a.1 in
    let t1 = log_takes a.0.1 b.0 t0.0.rest_fits b.1 in
    let all = Takes-then bytes (number a.0.0) a.0.1 (log_octets b.0.0) b.0.1 t0.0 t1.0 in
    subst (λ (y : Snapshot (List ℕ) × List ℕ). Takes bytes (held_octets y.0) y.1 × IsHeldInRange y.0)
    (some_is made x b.2) (all, (t0.1, t1.1))

pub held_again : (held : Snapshot (List ℕ)) (rest : List ℕ) → IsHeldInRange held →
    cut_held (held_octets held ++ rest) ≡ Some (held, rest)
unfolding cut_held
held_again held rest h =
    ap cut_held (append_assoc (number held.commit_number) (log_octets held.log) rest)
    ∙ rw (number_again held.commit_number (log_octets held.log ++ rest) h.0, log_again held.log rest h.1) refl
