-- Frames: what is cut is what was spelled, and what was spelled is cut again: whole messages.
use Rattle.std.proofs.Common.{◌≡◌, ℕ, ◌+◌, ◌^◌, ◌<◌, ◌≤◌, ◌⊎◌, inl, inr, ◌==◌, ◌&&◌, Bool, true, false, cond, nat_le, List}
use Rattle.std.proofs.Common.{[], ◌∷◌, ◌++◌, length, Option, Some, None, refl, sym, ap, subst, ◌∙◌, append_assoc, append-nil}
use Rattle.std.proofs.Common.{arith, eq-eqb, eqb-true, true≢false}
use Rattle.std.proofs.lemmas.Bool.{le-leb, leb-true}
use Rattle.std.proofs.lemmas.List.{nil_from_length, length-append}
use Rattle.view_store.specs.Cluster.{IsCluster, cluster_octets}
use Rattle.vr_state.specs.Words.{LogEntry}
use Rattle.vr_state.specs.declared.message.Change.{Change}
use Rattle.vr_state.specs.declared.message.Response.{Response}
use Rattle.vr_state.specs.declared.message.Snapshot.{Snapshot}
use Rattle.vr_state.specs.declared.message.PeerMessage.{PeerMessage}
use Rattle.vr_state.specs.declared.message.PeerMessage.TheVariants.{Prepare, PrepareOk, Commit, StartViewChange, DoViewChange, StartView, GetState}
use Rattle.vr_state.specs.declared.message.PeerMessage.TheVariants.{NewState, Recovery, RecoveryResponse}
use Rattle.vr_wire.specs.Frames.{number, short, entry_octets, log_octets, held_octets, perhaps_octets, body_octets, kind_of, rest_octets}
use Rattle.vr_wire.specs.Frames.{frame_octets, limit, IsInRange, IsHeldInRange, IsPerhapsInRange}
use Rattle.vr_wire.specs.private.Cutting.{then, whole, cut_octet, cut_number, cut_short, cut_two, cut_three, cut_entry, cut_log, cut_held, perhaps_by}
use Rattle.vr_wire.specs.private.Cutting.{cut_perhaps, only_number, only_two, only_state, cut_prepare, cut_prepare_ok, cut_commit, cut_start_view_change}
use Rattle.vr_wire.specs.private.Cutting.{cut_do_view_change, cut_start_view, cut_get_state, cut_new_state, cut_recovery, cut_recovery_response, cut_body}
use Rattle.vr_wire.specs.private.Cutting.{cut_cluster, cut_head, cut_said, cut_rest, sized, cut_frame}
use Rattle.vr_wire.proofs.Fields.{IsBytes, then_some, guard_some, some_is, Takes, Takes-then, octet_takes, octet_again, number_takes, number_again}
use Rattle.vr_wire.proofs.Fields.{short_takes, short_again, cluster_takes, cluster_again}
use Rattle.vr_wire.proofs.Records.{entry_takes, entry_again, log_takes, log_again, held_takes, held_again}

whole_some : {A : Type 0} (p : A × List ℕ) (y : A) → whole p ≡ Some y → (p.1 ≡ []) × (p.0 ≡ y)
whole_some p y e =
    let g = guard_some (length p.1 == 0) p.0 y e in
    (nil_from_length p.1 (eqb-true (length p.1) 0 g.0), g.1)

ends_here : (bytes text rest : List ℕ) → Takes bytes text rest → rest ≡ [] → bytes ≡ text
ends_here bytes text rest t e = t.parts ∙ ap (λ (l : List ℕ). text ++ l) e ∙ append-nil text

pub chosen : {A : Type 0} (b : Bool) (x y z : A) → cond b x y ≡ z → ((b ≡ true) × (x ≡ z)) ⊎ ((b ≡ false) × (y ≡ z))
chosen true x y z e = inl (refl, e)
chosen false x y z e = inr (refl, e)

-- ---- a number and nothing more, two, three

only_number_takes : (bytes : List ℕ) (n : ℕ) → IsBytes bytes → only_number bytes ≡ Some n → (bytes ≡ number n)
    × (n < 2 ^ 63)
unfolding only_number
only_number_takes bytes n fits e =
    let a = then_some (cut_number bytes) (λ v. whole v) n e in
    let w = whole_some a.0 n a.2 in
    let t = number_takes bytes a.0 fits a.1 in
    subst (λ (m : ℕ). (bytes ≡ number m) × (m < 2 ^ 63)) w.1 (ends_here bytes (number a.0.0) a.0.1 t.0 w.0, t.1)

only_number_again : (n : ℕ) → n < 2 ^ 63 → only_number (number n) ≡ Some n
unfolding only_number
only_number_again n h = ap only_number (sym (append-nil (number n))) ∙ rw (number_again n [] h) refl

two_takes : (bytes : List ℕ) (x : (ℕ × ℕ) × List ℕ) → IsBytes bytes → cut_two bytes ≡ Some x →
    Takes bytes (number x.0.0 ++ number x.0.1) x.1 × (x.0.0 < 2 ^ 63) × (x.0.1 < 2 ^ 63)
unfolding cut_two
two_takes bytes x fits e =
    let a = then_some (cut_number bytes) (λ a. then (cut_number a.1) (λ b. Some ((a.0, b.0), b.1))) x e in
    let b = then_some (cut_number a.0.1) (λ b. Some ((a.0.0, b.0), b.1)) x a.2 in
    let t0 = number_takes bytes a.0 fits a.1 in
    let t1 = number_takes a.0.1 b.0 t0.0.rest_fits b.1 in
    let all = Takes-then bytes (number a.0.0) a.0.1 (number b.0.0) b.0.1 t0.0 t1.0 in
    let made : (ℕ × ℕ) × List ℕ = ((a.0.0, b.0.0), b.0.1) in
    subst (λ (y : (ℕ × ℕ) × List ℕ). Takes bytes (number y.0.0 ++ number y.0.1) y.1 × (y.0.0 < 2 ^ 63)
    × (y.0.1 < 2 ^ 63)) (some_is made x b.2) (all, t0.1, t1.1)

two_again : (a b : ℕ) (rest : List ℕ) → a < 2 ^ 63 → b < 2 ^ 63 → cut_two (number a ++ (number b ++ rest)) ≡
    Some ((a, b), rest)
unfolding cut_two
two_again a b rest h k = rw (number_again a (number b ++ rest) h, number_again b rest k) refl

three_takes : (bytes : List ℕ) (x : (ℕ × (ℕ × ℕ)) × List ℕ) → IsBytes bytes → cut_three bytes ≡ Some x →
    Takes bytes (number x.0.0 ++ (number x.0.1.0 ++ number x.0.1.1)) x.1 × (x.0.0 < 2 ^ 63) × (x.0.1.0 < 2 ^ 63)
    × (x.0.1.1 < 2 ^ 63)
unfolding cut_three
three_takes bytes x fits e =
    let a = then_some (cut_number bytes) (λ a. then (cut_two a.1) (λ b. Some ((a.0, b.0), b.1))) x e in
    let b = then_some (cut_two a.0.1) (λ b. Some ((a.0.0, b.0), b.1)) x a.2 in
    let t0 = number_takes bytes a.0 fits a.1 in
    let t1 = two_takes a.0.1 b.0 t0.0.rest_fits b.1 in
    let all = Takes-then bytes (number a.0.0) a.0.1 (number b.0.0.0 ++ number b.0.0.1) b.0.1 t0.0 t1.0 in
    let made : (ℕ × (ℕ × ℕ)) × List ℕ = ((a.0.0, b.0.0), b.0.1) in
    subst (λ (y : (ℕ × (ℕ × ℕ)) × List ℕ). Takes bytes (number y.0.0 ++ (number y.0.1.0 ++ number y.0.1.1)) y.1
    × (y.0.0 < 2 ^ 63) × (y.0.1.0 < 2 ^ 63) × (y.0.1.1 < 2 ^ 63)) (some_is made x b.2) (all, t0.1, t1.1, t1.2)

three_again : (a b c : ℕ) (rest : List ℕ) → a < 2 ^ 63 → b < 2 ^ 63 → c < 2 ^ 63 →
    cut_three (number a ++ (number b ++ (number c ++ rest))) ≡ Some ((a, (b, c)), rest)
unfolding cut_three
three_again a b c rest h k l = rw (number_again a (number b ++ (number c ++ rest)) h, two_again b c rest k l) refl

only_two_takes : (bytes : List ℕ) (n : ℕ × ℕ) → IsBytes bytes → only_two bytes ≡ Some n →
    (bytes ≡ number n.0 ++ number n.1) × (n.0 < 2 ^ 63) × (n.1 < 2 ^ 63)
unfolding only_two
only_two_takes bytes n fits e =
    let a = then_some (cut_two bytes) (λ v. whole v) n e in
    let w = whole_some a.0 n a.2 in
    let t = two_takes bytes a.0 fits a.1 in
    subst (λ (m : ℕ × ℕ). (bytes ≡ number m.0 ++ number m.1) × (m.0 < 2 ^ 63) × (m.1 < 2 ^ 63)) w.1
    (ends_here bytes (number a.0.0.0 ++ number a.0.0.1) a.0.1 t.0 w.0, t.1, t.2)

only_two_again : (a b : ℕ) → a < 2 ^ 63 → b < 2 ^ 63 → only_two (number a ++ number b) ≡ Some (a, b)
unfolding only_two
only_two_again a b h k =
    ap only_two (sym (append-nil (number a ++ number b)) ∙ append_assoc (number a) (number b) [])
    ∙ rw (two_again a b [] h k) refl

only_state_takes : (bytes : List ℕ) (s : ℕ × Snapshot (List ℕ)) → IsBytes bytes → only_state bytes ≡ Some s →
    (bytes ≡ number s.0 ++ held_octets s.1) × (s.0 < 2 ^ 63) × IsHeldInRange s.1
unfolding only_state
only_state_takes bytes s fits e =
    let a = then_some (cut_number bytes) (λ v. then (cut_held v.1) (λ h. whole ((v.0, h.0), h.1))) s e in
    let b = then_some (cut_held a.0.1) (λ h. whole ((a.0.0, h.0), h.1)) s a.2 in
    let made : (ℕ × Snapshot (List ℕ)) × List ℕ = ((a.0.0, b.0.0), b.0.1) in
    let w = whole_some made s b.2 in
    let t0 = number_takes bytes a.0 fits a.1 in
    let t1 = held_takes a.0.1 b.0 t0.0.rest_fits b.1 in
    let all = Takes-then bytes (number a.0.0) a.0.1 (held_octets b.0.0) b.0.1 t0.0 t1.0 in
    subst (λ (y : ℕ × Snapshot (List ℕ)). (bytes ≡ number y.0 ++ held_octets y.1) × (y.0 < 2 ^ 63)
    × IsHeldInRange y.1) w.1 (ends_here bytes (number a.0.0 ++ held_octets b.0.0) b.0.1 all w.0, t0.1, t1.1)

only_state_again : (v : ℕ) (held : Snapshot (List ℕ)) → v < 2 ^ 63 → IsHeldInRange held →
    only_state (number v ++ held_octets held) ≡ Some (v, held)
unfolding only_state
only_state_again v held h k =
    ap only_state (ap (λ (l : List ℕ). number v ++ l) (sym (append-nil (held_octets held))))
    ∙ rw (number_again v (held_octets held ++ []) h, held_again held [] k) refl

-- ---- bodies by kind

-- the octets are the body of this message, which is of this kind
pub record IsBody (kind : ℕ) (bytes : List ℕ) (m : PeerMessage (List ℕ)) : Type 0 where
  pub octets : bytes ≡ body_octets m
  pub range : IsInRange m
  pub kind_is : kind_of m ≡ kind

prepare_takes : (bytes : List ℕ) (m : PeerMessage (List ℕ)) → IsBytes bytes → cut_prepare bytes ≡ Some m →
    IsBody 1 bytes m
unfolding cut_prepare
prepare_takes bytes m fits e =
    let a = then_some (cut_three bytes)
    (λ n. then (cut_entry n.1) (λ e. whole (Prepare n.0.0 e.0 n.0.1.0 n.0.1.1, e.1))) m e in
    let b = then_some (cut_entry a.0.1) (λ e. whole (Prepare a.0.0.0 e.0 a.0.0.1.0 a.0.0.1.1, e.1)) m a.2 in
    let made : PeerMessage (List ℕ) × List ℕ = (Prepare a.0.0.0 b.0.0 a.0.0.1.0 a.0.0.1.1, b.0.1) in
    let w = whole_some made m b.2 in
    let t0 = three_takes bytes a.0 fits a.1 in
    let t1 = entry_takes a.0.1 b.0 t0.0.rest_fits b.1 in
    let all = ends_here bytes _ b.0.1 (Takes-then bytes (number a.0.0.0 ++ (number a.0.0.1.0 ++ number a.0.0.1.1))
    a.0.1 (entry_octets b.0.0) b.0.1 t0.0 t1.0) w.0 in
    subst (IsBody 1 bytes) w.1 (record {
      octets = all ∙ append_assoc (number a.0.0.0) (number a.0.0.1.0 ++ number a.0.0.1.1) (entry_octets b.0.0)
          ∙ ap (λ (l : List ℕ). number a.0.0.0 ++ l) (append_assoc (number a.0.0.1.0) (number a.0.0.1.1)
          (entry_octets b.0.0));
      range = (t0.1, t0.2, t0.3, t1.1);
      kind_is = refl;
    })

prepare_again : (v : ℕ) (e : LogEntry (List ℕ)) (p k : ℕ) → IsInRange (Prepare v e p k) →
    cut_prepare (body_octets (Prepare v e p k)) ≡ Some (Prepare v e p k)
unfolding cut_prepare
prepare_again v e p k h =
    ap cut_prepare (ap (λ (l : List ℕ). number v ++ (number p ++ (number k ++ l))) (sym (append-nil (entry_octets e))))
    ∙ rw (three_again v p k (entry_octets e ++ []) h.0 h.1 h.2, entry_again e [] h.3) refl

do_view_change_takes : (bytes : List ℕ) (m : PeerMessage (List ℕ)) → IsBytes bytes → cut_do_view_change bytes ≡
    Some m → IsBody 5 bytes m
unfolding cut_do_view_change
do_view_change_takes bytes m fits e =
    let a = then_some (cut_three bytes)
    (λ n. then (cut_log n.1) (λ l.
    whole (
      DoViewChange n.0.0 (record {
        log = l.0;
        last_normal_view = n.0.1.0;
        commit_number =
            n.0.1.1;
      }),
      l.1,
    ))) m e in
    let b = then_some (cut_log a.0.1)
    (λ l. whole (
      DoViewChange a.0.0.0 (record {
        log = l.0;
        last_normal_view = a.0.0.1.0;
        commit_number =
            a.0.0.1.1;
      }),
      l.1,
    )) m a.2 in
    let made : PeerMessage (List ℕ)
    × List ℕ = (
      DoViewChange a.0.0.0 (record {
        log = b.0.0;
        last_normal_view = a.0.0.1.0;
        commit_number =
            a.0.0.1.1;
      }),
      b.0.1,
    ) in
    let w = whole_some made m b.2 in
    let t0 = three_takes bytes a.0 fits a.1 in
    let t1 = log_takes a.0.1 b.0 t0.0.rest_fits b.1 in
    let all = ends_here bytes _ b.0.1 (Takes-then bytes (number a.0.0.0 ++ (number a.0.0.1.0 ++ number a.0.0.1.1))
    a.0.1 (log_octets b.0.0) b.0.1 t0.0 t1.0) w.0 in
    subst (IsBody 5 bytes) w.1 (record {
      octets = all ∙ append_assoc (number a.0.0.0) (number a.0.0.1.0 ++ number a.0.0.1.1) (log_octets b.0.0)
          ∙ ap (λ (l : List ℕ). number a.0.0.0 ++ l) (append_assoc (number a.0.0.1.0) (number a.0.0.1.1)
          (log_octets b.0.0));
      range = (t0.1, t0.2, t0.3, t1.1);
      kind_is = refl;
    })

do_view_change_again : (v : ℕ) (c : Change (List ℕ)) → IsInRange (DoViewChange v c) →
    cut_do_view_change (body_octets (DoViewChange v c)) ≡ Some (DoViewChange v c)
unfolding cut_do_view_change
do_view_change_again v c h =
    ap cut_do_view_change (ap (λ (l : List ℕ).
    number v ++ (number c.last_normal_view ++ (number c.commit_number ++ l))) (sym (append-nil (log_octets c.log))))
    ∙ rw (
      three_again v c.last_normal_view c.commit_number (log_octets
          c.log ++ []) h.0 h.1 h.2,
      log_again c.log [] h.3,
    ) refl

perhaps_none : (bytes : List ℕ) (x : Option (Snapshot (List ℕ)) × List ℕ) (tag : ℕ) (rest : List ℕ) →
    Takes bytes (tag ∷ []) rest → tag ≡ 0 → (None, rest) ≡ x → Takes bytes (perhaps_octets x.0) x.1
    × IsPerhapsInRange x.0
perhaps_none bytes x tag rest t zero-is e =
    let first : Takes bytes (0 ∷ []) rest = subst (λ (n : ℕ). Takes bytes (n ∷ []) rest) zero-is t in
    subst (λ (y : Option (Snapshot (List ℕ)) × List ℕ). Takes bytes (perhaps_octets y.0) y.1 × IsPerhapsInRange y.0) e
    (first, tt)

perhaps_some : (bytes : List ℕ) (x : Option (Snapshot (List ℕ)) × List ℕ) (tag : ℕ) (rest : List ℕ) →
    Takes bytes (tag ∷ []) rest → tag ≡ 1 → then (cut_held rest) (λ h. Some (Some h.0, h.1)) ≡ Some x →
    Takes bytes (perhaps_octets x.0) x.1 × IsPerhapsInRange x.0
perhaps_some bytes x tag rest t one-is h =
    let first : Takes bytes (1 ∷ []) rest = subst (λ (n : ℕ). Takes bytes (n ∷ []) rest) one-is t in
    let b = then_some (cut_held rest) (λ h. Some (Some h.0, h.1)) x h in
    let u = held_takes rest b.0 t.rest_fits b.1 in
    subst (λ (y : Option (Snapshot (List ℕ)) × List ℕ). Takes bytes (perhaps_octets y.0) y.1 × IsPerhapsInRange y.0)
    (some_is (Some b.0.0, b.0.1) x b.2)
    (Takes-then bytes (1 ∷ []) rest (held_octets b.0.0) b.0.1 first u.0, u.1)

pub not_some : {A : Type 0} (x : A) (o : Option A) → o ≡ None → o ≡ Some x → ⊥
not_some x None p q = absurd cc
not_some x (Some y) p q = absurd cc

perhaps_takes : (bytes : List ℕ) (x : Option (Snapshot (List ℕ)) × List ℕ) → IsBytes bytes → cut_perhaps bytes ≡
    Some x → Takes bytes (perhaps_octets x.0) x.1 × IsPerhapsInRange x.0
unfolding cut_perhaps
perhaps_takes bytes x fits e =
    let a = then_some (cut_octet bytes) (λ t. perhaps_by t.0 t.1) x e in
    let t = octet_takes bytes a.0 fits a.1 in
    let held : Option (Option (Snapshot (List ℕ)) × List ℕ) = then (cut_held a.0.1) (λ h. Some (Some h.0, h.1)) in
    elim (chosen (a.0.0 == 0) (Some (None, a.0.1)) (cond (a.0.0 == 1) held None) (Some x) a.2) [
      | inl h ↦ perhaps_none bytes x a.0.0 a.0.1 t (eqb-true a.0.0 0 h.0) (some_is (None, a.0.1) x h.1)
      | inr h ↦ elim (chosen (a.0.0 == 1) held None (Some x) h.1) [
        | inl k ↦ perhaps_some bytes x a.0.0 a.0.1 t (eqb-true a.0.0 1 k.0) k.1
        | inr k ↦ absurd (not_some x None refl k.1)
      ]
    ]

perhaps_again : (o : Option (Snapshot (List ℕ))) (rest : List ℕ) → IsPerhapsInRange o →
    cut_perhaps (perhaps_octets o ++ rest) ≡ Some (o, rest)
unfolding cut_perhaps
perhaps_again None rest h = rw (octet_again 0 rest) refl
perhaps_again (Some held) rest h = rw (octet_again 1 (held_octets held ++ rest), held_again held rest h) refl

recovery_response_takes : (bytes : List ℕ) (m : PeerMessage (List ℕ)) → IsBytes bytes → cut_recovery_response bytes ≡
    Some m → IsBody 10 bytes m
unfolding cut_recovery_response
recovery_response_takes bytes m fits e =
    let a = then_some (cut_two bytes)
    (λ n. then (cut_perhaps n.1)
    (λ h. whole (RecoveryResponse n.0.1 (record { view_number = n.0.0; held = h.0 }), h.1))) m e in
    let b = then_some (cut_perhaps a.0.1)
    (λ h. whole (RecoveryResponse a.0.0.1 (record { view_number = a.0.0.0; held = h.0 }), h.1)) m a.2 in
    let made : PeerMessage (List ℕ)
    × List ℕ = (RecoveryResponse a.0.0.1 (record { view_number = a.0.0.0; held = b.0.0 }), b.0.1) in
    let w = whole_some made m b.2 in
    let t0 = two_takes bytes a.0 fits a.1 in
    let t1 = perhaps_takes a.0.1 b.0 t0.0.rest_fits b.1 in
    let all = ends_here bytes _ b.0.1 (Takes-then bytes (number a.0.0.0 ++ number a.0.0.1) a.0.1
    (perhaps_octets b.0.0) b.0.1 t0.0 t1.0) w.0 in
    subst (IsBody 10 bytes) w.1 (record {
      octets = all ∙ append_assoc (number a.0.0.0) (number a.0.0.1) (perhaps_octets b.0.0);
      range = (t0.1, t0.2, t1.1);
      kind_is = refl;
    })

recovery_response_again : (x : ℕ) (a : Response (List ℕ)) → IsInRange (RecoveryResponse x a) →
    cut_recovery_response (body_octets (RecoveryResponse x a)) ≡ Some (RecoveryResponse x a)
unfolding cut_recovery_response
recovery_response_again x a h =
    ap cut_recovery_response (ap (λ (l : List ℕ). number a.view_number ++ (number x ++ l))
    (sym (append-nil (perhaps_octets a.held))))
    ∙ rw (two_again a.view_number x (perhaps_octets a.held ++ []) h.0 h.1, perhaps_again a.held [] h.2) refl

prepare_ok_takes : (bytes : List ℕ) (m : PeerMessage (List ℕ)) → IsBytes bytes → cut_prepare_ok bytes ≡ Some m →
    IsBody 2 bytes m
unfolding cut_prepare_ok
prepare_ok_takes bytes m fits e =
    let a = then_some (only_two bytes) (λ n. Some (PrepareOk n.0 n.1)) m e in
    let t = only_two_takes bytes a.0 fits a.1 in
    subst (IsBody 2 bytes) (some_is (PrepareOk a.0.0 a.0.1) m a.2)
    (record { octets = t.0; range = (t.1, t.2); kind_is = refl })

prepare_ok_again : (v p : ℕ) → IsInRange (PrepareOk v p) → cut_prepare_ok (body_octets (PrepareOk v p)) ≡
    Some (PrepareOk v p)
unfolding cut_prepare_ok
prepare_ok_again v p h = rw (only_two_again v p h.0 h.1) refl

commit_takes : (bytes : List ℕ) (m : PeerMessage (List ℕ)) → IsBytes bytes → cut_commit bytes ≡ Some m →
    IsBody 3 bytes m
unfolding cut_commit
commit_takes bytes m fits e =
    let a = then_some (only_two bytes) (λ n. Some (Commit n.0 n.1)) m e in
    let t = only_two_takes bytes a.0 fits a.1 in
    subst (IsBody 3 bytes) (some_is (Commit a.0.0 a.0.1) m a.2) (record {
      octets = t.0;
      range = (t.1, t.2);
      kind_is =
          refl;
    })

commit_again : (v p : ℕ) → IsInRange (Commit v p) → cut_commit (body_octets (Commit v p)) ≡ Some (Commit v p)
unfolding cut_commit
commit_again v p h = rw (only_two_again v p h.0 h.1) refl

start_view_change_takes : (bytes : List ℕ) (m : PeerMessage (List ℕ)) → IsBytes bytes → cut_start_view_change bytes ≡
    Some m → IsBody 4 bytes m
unfolding cut_start_view_change
start_view_change_takes bytes m fits e =
    let a = then_some (only_number bytes) (λ v. Some (StartViewChange v)) m e in
    let t = only_number_takes bytes a.0 fits a.1 in
    subst (IsBody 4 bytes) (some_is (StartViewChange a.0) m a.2) (record { octets = t.0; range = t.1; kind_is = refl })

start_view_change_again : (v : ℕ) → IsInRange (StartViewChange v) →
    cut_start_view_change (body_octets (StartViewChange v)) ≡ Some (StartViewChange v)
unfolding cut_start_view_change
start_view_change_again v h = rw (only_number_again v h) refl

get_state_takes : (bytes : List ℕ) (m : PeerMessage (List ℕ)) → IsBytes bytes → cut_get_state bytes ≡ Some m →
    IsBody 11 bytes m
unfolding cut_get_state
get_state_takes bytes m fits e =
    let a = then_some (only_two bytes) (λ n. Some (GetState n.0 n.1)) m e in
    let t = only_two_takes bytes a.0 fits a.1 in
    subst (IsBody 11 bytes) (some_is (GetState a.0.0 a.0.1) m a.2)
    (record { octets = t.0; range = (t.1, t.2); kind_is = refl })

get_state_again : (v k : ℕ) → IsInRange (GetState v k) → cut_get_state (body_octets (GetState v k)) ≡
    Some (GetState v k)
unfolding cut_get_state
get_state_again v k h = rw (only_two_again v k h.0 h.1) refl

recovery_takes : (bytes : List ℕ) (m : PeerMessage (List ℕ)) → IsBytes bytes → cut_recovery bytes ≡ Some m →
    IsBody 9 bytes m
unfolding cut_recovery
recovery_takes bytes m fits e =
    let a = then_some (only_number bytes) (λ v. Some (Recovery v)) m e in
    let t = only_number_takes bytes a.0 fits a.1 in
    subst (IsBody 9 bytes) (some_is (Recovery a.0) m a.2) (record { octets = t.0; range = t.1; kind_is = refl })

recovery_again : (v : ℕ) → IsInRange (Recovery v) → cut_recovery (body_octets (Recovery v)) ≡ Some (Recovery v)
unfolding cut_recovery
recovery_again v h = rw (only_number_again v h) refl

start_view_takes : (bytes : List ℕ) (m : PeerMessage (List ℕ)) → IsBytes bytes → cut_start_view bytes ≡ Some m →
    IsBody 6 bytes m
unfolding cut_start_view
start_view_takes bytes m fits e =
    let a = then_some (only_state bytes) (λ s. Some (StartView s.0 s.1)) m e in
    let t = only_state_takes bytes a.0 fits a.1 in
    subst (IsBody 6 bytes) (some_is (StartView a.0.0 a.0.1) m a.2)
    (record { octets = t.0; range = (t.1, t.2); kind_is = refl })

start_view_again : (v : ℕ) (held : Snapshot (List ℕ)) → IsInRange (StartView v held) →
    cut_start_view (body_octets (StartView v held)) ≡ Some (StartView v held)
unfolding cut_start_view
start_view_again v held h = rw (only_state_again v held h.0 h.1) refl

new_state_takes : (bytes : List ℕ) (m : PeerMessage (List ℕ)) → IsBytes bytes → cut_new_state bytes ≡ Some m →
    IsBody 12 bytes m
unfolding cut_new_state
new_state_takes bytes m fits e =
    let a = then_some (cut_three bytes)
    (λ n. then (cut_log n.1) (λ l.
    whole (NewState n.0.0 n.0.1.1 (record { log = l.0; commit_number = n.0.1.0 }), l.1))) m e in
    let b = then_some (cut_log a.0.1)
    (λ l. whole (NewState a.0.0.0 a.0.0.1.1 (record { log = l.0; commit_number = a.0.0.1.0 }), l.1)) m a.2 in
    let made : PeerMessage (List ℕ)
    × List ℕ = (NewState a.0.0.0 a.0.0.1.1 (record { log = b.0.0; commit_number = a.0.0.1.0 }), b.0.1) in
    let w = whole_some made m b.2 in
    let t0 = three_takes bytes a.0 fits a.1 in
    let t1 = log_takes a.0.1 b.0 t0.0.rest_fits b.1 in
    let all = ends_here bytes _ b.0.1 (Takes-then bytes (number a.0.0.0 ++ (number a.0.0.1.0 ++ number a.0.0.1.1))
    a.0.1 (log_octets b.0.0) b.0.1 t0.0 t1.0) w.0 in
    subst (IsBody 12 bytes) w.1 (record {
      octets = all ∙ append_assoc (number a.0.0.0) (number a.0.0.1.0 ++ number a.0.0.1.1) (log_octets b.0.0)
          ∙ ap (λ (l : List ℕ). number a.0.0.0 ++ l) (append_assoc (number a.0.0.1.0) (number a.0.0.1.1)
          (log_octets b.0.0));
      range = (t0.1, t0.2, t0.3, t1.1);
      kind_is = refl;
    })

new_state_again : (v x : ℕ) (tail : Snapshot (List ℕ)) → IsInRange (NewState v x tail) →
    cut_new_state (body_octets (NewState v x tail)) ≡ Some (NewState v x tail)
unfolding cut_new_state
new_state_again v x tail h =
    ap cut_new_state (ap (λ (l : List ℕ). number v ++ (number tail.commit_number ++ (number x ++ l)))
    (sym (append-nil (log_octets tail.log))))
    ∙ rw (three_again v tail.commit_number x (log_octets tail.log ++ []) h.0 h.1 h.2, log_again tail.log [] h.3) refl

-- ---- the body of any kind

by_kind : (k kind : ℕ) (bytes : List ℕ) (m : PeerMessage (List ℕ)) (cut rest : Option (PeerMessage (List ℕ))) →
    (cut ≡ Some m → IsBody k bytes m) → (rest ≡ Some m → IsBody kind bytes m) → cond (kind == k) cut rest ≡ Some m →
    IsBody kind bytes m
by_kind k kind bytes m cut rest here there e =
    elim (chosen (kind == k) cut rest (Some m) e) [
      | inl h ↦ subst (λ (n : ℕ). IsBody n bytes m) (sym (eqb-true kind k h.0)) (here h.1)
      | inr h ↦ there h.1
    ]

pub body_takes : (kind : ℕ) (bytes : List ℕ) (m : PeerMessage (List ℕ)) → IsBytes bytes → cut_body kind bytes ≡
    Some m → IsBody kind bytes m
body_takes kind bytes m fits e =
    by_kind 1 kind bytes m _ _ (prepare_takes bytes m fits)
    (by_kind 2 kind bytes m _ _ (prepare_ok_takes bytes m fits)
    (by_kind 3 kind bytes m _ _ (commit_takes bytes m fits)
    (by_kind 4 kind bytes m _ _ (start_view_change_takes bytes m fits)
    (by_kind 5 kind bytes m _ _ (do_view_change_takes bytes m fits)
    (by_kind 6 kind bytes m _ _ (start_view_takes bytes m fits)
    (by_kind 9 kind bytes m _ _ (recovery_takes bytes m fits)
    (by_kind 10 kind bytes m _ _ (recovery_response_takes bytes m fits)
    (by_kind 11 kind bytes m _ _ (get_state_takes bytes m fits)
    (by_kind 12 kind bytes m _ _ (new_state_takes bytes m fits) (λ h. absurd cc)))))))))) e

pub body_again : (m : PeerMessage (List ℕ)) → IsInRange m → cut_body (kind_of m) (body_octets m) ≡ Some m
body_again (Prepare v e p k) h = prepare_again v e p k h
body_again (PrepareOk v p) h = prepare_ok_again v p h
body_again (Commit v k) h = commit_again v k h
body_again (StartViewChange v) h = start_view_change_again v h
body_again (DoViewChange v c) h = do_view_change_again v c h
body_again (StartView v held) h = start_view_again v held h
body_again (Recovery x) h = recovery_again x h
body_again (RecoveryResponse x a) h = recovery_response_again x a h
body_again (GetState v k) h = get_state_again v k h
body_again (NewState v x tail) h = new_state_again v x tail h

-- ---- frames

pub head_takes : (bytes : List ℕ) (x : ℕ × List ℕ) → IsBytes bytes → cut_head bytes ≡ Some x →
    Takes bytes (2 ∷ cluster_octets x.0) x.1 × IsCluster x.0
unfolding cut_head
head_takes bytes x fits e =
    let a = then_some (cut_octet bytes) (λ v. cond (v.0 == 2) (cut_cluster v.1) None) x e in
    let t0 = octet_takes bytes a.0 fits a.1 in
    elim (chosen (a.0.0 == 2) (cut_cluster a.0.1) None (Some x) a.2) [
      | inr h ↦ absurd cc
      | inl h ↦
          (let t1 = cluster_takes a.0.1 x t0.rest_fits h.1 in
          let version : a.0.0 ≡ 2 = eqb-true a.0.0 2 h.0 in
          let first : Takes bytes (2 ∷ []) a.0.1 = subst (λ (n : ℕ). Takes bytes (n ∷ []) a.0.1) version t0 in
          (Takes-then bytes (2 ∷ []) a.0.1 (cluster_octets x.0) x.1 first t1.0, t1.1))
    ]

pub head_again : (cluster : ℕ) (rest : List ℕ) → IsCluster cluster → cut_head (2 ∷ (cluster_octets cluster ++ rest)) ≡
    Some (cluster, rest)
unfolding cut_head
head_again cluster rest h = rw (octet_again 2 (cluster_octets cluster ++ rest), cluster_again cluster rest h) refl

said_takes : (bytes : List ℕ) (x : ℕ × PeerMessage (List ℕ)) → IsBytes bytes → cut_said bytes ≡ Some x →
    (bytes ≡ kind_of x.1 ∷ x.0 ∷ body_octets x.1) × IsInRange x.1
unfolding cut_said
said_takes bytes x fits e =
    let b = then_some (cut_octet bytes)
    (λ k. then (cut_octet k.1) (λ s. then (cut_body k.0 s.1) (λ m. Some (s.0, m)))) x e in
    let c = then_some (cut_octet b.0.1) (λ s. then (cut_body b.0.0 s.1) (λ m. Some (s.0, m))) x b.2 in
    let d = then_some (cut_body b.0.0 c.0.1) (λ m. Some (c.0.0, m)) x c.2 in
    let t1 = octet_takes bytes b.0 fits b.1 in
    let t2 = octet_takes b.0.1 c.0 t1.rest_fits c.1 in
    let body = body_takes b.0.0 c.0.1 d.0 t2.rest_fits d.1 in
    let all : bytes ≡ kind_of d.0 ∷ c.0.0 ∷ body_octets d.0 =
    t1.parts ∙ ap (λ (l : List ℕ). b.0.0 ∷ l) t2.parts
    ∙ ap (λ (l : List ℕ). b.0.0 ∷ c.0.0 ∷ l) body.octets
    ∙ ap (λ (n : ℕ). n ∷ c.0.0 ∷ body_octets d.0) (sym body.kind_is) in
    subst (λ (y : ℕ × PeerMessage (List ℕ)). (bytes ≡ kind_of y.1 ∷ y.0 ∷ body_octets y.1) × IsInRange y.1)
    (some_is (c.0.0, d.0) x d.2) (all, body.range)

said_again : (sender : ℕ) (m : PeerMessage (List ℕ)) → IsInRange m → cut_said (kind_of m ∷ sender ∷ body_octets m) ≡
    Some (sender, m)
unfolding cut_said
said_again sender m h = rw (
  octet_again (kind_of m) (sender ∷ body_octets m),
  octet_again sender (body_octets
      m),
  body_again m h,
) refl

-- what the octets after the length are known to be
pub record IsRest (bytes : List ℕ) (x : ℕ × (ℕ × PeerMessage (List ℕ))) : Type 0 where
  pub octets : bytes ≡ rest_octets x.0 x.1.0 x.1.1
  pub cluster_is : IsCluster x.0
  pub range : IsInRange x.1.1

rest_takes : (bytes : List ℕ) (x : ℕ × (ℕ × PeerMessage (List ℕ))) → IsBytes bytes → cut_rest bytes ≡ Some x →
    IsRest bytes x
unfolding cut_rest
rest_takes bytes x fits e =
    let a = then_some (cut_head bytes) (λ c. then (cut_said c.1) (λ p. Some (c.0, p))) x e in
    let b = then_some (cut_said a.0.1) (λ p. Some (a.0.0, p)) x a.2 in
    let t0 = head_takes bytes a.0 fits a.1 in
    let t1 = said_takes a.0.1 b.0 t0.0.rest_fits b.1 in
    let made : ℕ × (ℕ × PeerMessage (List ℕ)) = (a.0.0, b.0) in
    subst (IsRest bytes) (some_is made x b.2) (record {
      octets = t0.0.parts ∙ ap (λ (l : List ℕ). 2 ∷ (cluster_octets a.0.0 ++ l)) t1.0;
      cluster_is = t0.1;
      range = t1.1;
    })

rest_again : (cluster sender : ℕ) (m : PeerMessage (List ℕ)) → IsCluster cluster → IsInRange m →
    cut_rest (rest_octets cluster sender m) ≡ Some (cluster, (sender, m))
unfolding cut_rest
rest_again cluster sender m h k =
    rw (head_again cluster (kind_of m ∷ sender ∷ body_octets m) h, said_again sender m k) refl

pub both_hold : (a b : Bool) → (a && b) ≡ true → (a ≡ true) × (b ≡ true)
both_hold true true e = (refl, refl)
both_hold true false e = absurd (true≢false (sym e))
both_hold false b e = absurd (true≢false (sym e))

pub all_hold : (a b : Bool) → a ≡ true → b ≡ true → (a && b) ≡ true
all_hold a b p q = rw (p, q) refl

-- A frame that is cut was spelled so.
pub record IsSpelled (bytes : List ℕ) (x : ℕ × (ℕ × PeerMessage (List ℕ))) : Type 0 where
  pub octets : bytes ≡ frame_octets x.0 x.1.0 x.1.1
  pub cluster_is : IsCluster x.0
  pub range : IsInRange x.1.1
  pub small : length bytes ≤ limit

pub frame_takes : (bytes : List ℕ) (x : ℕ × (ℕ × PeerMessage (List ℕ))) → IsBytes bytes → cut_frame bytes ≡ Some x →
    IsSpelled bytes x
unfolding cut_frame
frame_takes bytes x fits e =
    let a = then_some (cut_short bytes) (λ n. then (sized n.0 n.1) cut_rest) x e in
    let b = then_some (sized a.0.0 a.0.1) cut_rest x a.2 in
    let g = guard_some (nat_le (a.0.0 + 4) limit && length a.0.1 == a.0.0) a.0.1 b.0 b.1 in
    let h = both_hold (nat_le (a.0.0 + 4) limit) (length a.0.1 == a.0.0) g.0 in
    let small : a.0.0 + 4 ≤ limit = leb-true (a.0.0 + 4) limit h.0 in
    let sized-is : length a.0.1 ≡ a.0.0 = eqb-true (length a.0.1) a.0.0 h.1 in
    let t = short_takes bytes a.0 fits a.1 in
    let r = rest_takes a.0.1 x t.0.rest_fits (ap cut_rest g.1 ∙ b.2) in
    let len : length bytes ≡ 4 + length a.0.1 = ap length t.0.parts ∙ length-append (short a.0.0) a.0.1 in
    record {
      octets = t.0.parts ∙ ap (λ (n : ℕ). short n ++ a.0.1) (sym sized-is)
          ∙ ap (λ (l : List ℕ). short (length l) ++ l) r.octets;
      cluster_is = r.cluster_is;
      range = r.range;
      small = omega (arith, len, small, sized-is);
    }

-- A frame in range and within the limit is cut again.
pub frame_again : (cluster sender : ℕ) (m : PeerMessage (List ℕ)) → IsCluster cluster → IsInRange m →
    length (frame_octets cluster sender m) ≤ limit → cut_frame (frame_octets cluster sender m) ≡
    Some (cluster, (sender, m))
unfolding cut_frame
frame_again cluster sender m k h le =
    let n = length (rest_octets cluster sender m) in
    let len : length (frame_octets cluster sender m) ≡ 4 + n = length-append (short n) (rest_octets cluster sender m) in
    let ok : (nat_le (n + 4) limit && n == n) ≡ true = all_hold (nat_le (n + 4) limit) (n == n)
    (le-leb (n + 4) limit (omega (arith, len, le))) (eq-eqb n n refl) in
    rw (short_again n (rest_octets cluster sender m) (omega (arith, len, le)), ok, rest_again cluster sender m k h) refl
