-- Frames: a part that is cut was spelled so, and one that was spelled is cut again; and what octets say.
use Rattle.std.proofs.Common.{◌≡◌, ℕ, ◌+◌, ◌^◌, ◌<◌, ◌≤◌, ◌==◌, ◌&&◌, true, cond, nat_lt, nat_le, List, ◌∷◌, ◌++◌, length, inl, inr}
use Rattle.std.proofs.Common.{Some, None, refl, sym, ap, subst, ◌∙◌, append_assoc, arith, eq-eqb, eqb-true}
use Rattle.std.specs.Int.{w64, from_be_bytes}
use Rattle.std.proofs.lemmas.Bool.{ltb-true, lt-ltb, le-leb, leb-true}
use Rattle.std.proofs.lemmas.List.{length-append}
use Rattle.std.proofs.lemmas.Nat.{be_bytes_8, from_be_bytes-to_be_bytes_8}
use Rattle.ldap_op.specs.Values.{OpValue}
use Rattle.view_store.specs.Cluster.{IsCluster, cluster_octets}
use Rattle.vr_state.specs.declared.message.PeerMessage.{PeerMessage}
use Rattle.vr_wire.specs.declared.error.WireError.{WireError}
use Rattle.vr_wire.specs.declared.error.WireError.TheVariants as error
use Rattle.vr_wire.specs.declared.labels.Portion.{Portion}
use Rattle.vr_wire.specs.Frames.{limit, number, short, kind_of, body_octets}
use Rattle.vr_wire.specs.private.Cutting.{then, Fails, cut_octet, cut_octets, cut_short, cut_head, cut_body, sized}
use Rattle.vr_wire.specs.Payloads.{Refuses, IsMessageOf}
use Rattle.vr_wire.specs.Parts.{portion_octets, part_rest}
use Rattle.vr_wire.specs.private.Parts.{cut_long, cut_place, portion_of, cut_portion, cut_part_said, cut_part_rest}
use Rattle.vr_wire.specs.Parts.{IsPart, IsSaying}
use Rattle.vr_wire.specs.private.Parts.{cut_part, cut_saying}
use Rattle.vr_wire.proofs.Fields.{IsBytes, then_some, guard_some, some_is, Takes, Takes-then, octet_takes, octet_again, octets_take, octets_again}
use Rattle.vr_wire.proofs.Fields.{short_takes, short_again}
use Rattle.vr_wire.proofs.Messages.{chosen, both_hold, all_hold, head_takes, head_again, body_takes, body_again, not_some}

-- ---- a number of 64 bits, a place

long_below : (bs : List ℕ) → IsBytes bs → from_be_bytes w64 bs < 2 ^ 64
long_below bs h = omega (arith, h 0, h 1, h 2, h 3, h 4, h 5, h 6, h 7)

long_takes : (bytes : List ℕ) (x : ℕ × List ℕ) → IsBytes bytes → cut_long bytes ≡ Some x →
    Takes bytes (number x.0) x.1 × (x.0 < 2 ^ 64)
unfolding cut_long
long_takes bytes x fits e =
    let a = then_some (cut_octets 8 bytes) (λ o. Some (from_be_bytes w64 o.0, o.1)) x e in
    let o = octets_take 8 bytes a.0 fits a.1 in
    let back : number (from_be_bytes w64 a.0.0) ≡ a.0.0 = be_bytes_8 a.0.0 (from_be_bytes w64 a.0.0) o.1 o.2 refl in
    let front : Takes bytes (number (from_be_bytes w64 a.0.0)) a.0.1 = subst (λ (t : List ℕ). Takes bytes t a.0.1)
    (sym back) o.0 in
    subst (λ (y : ℕ × List ℕ). Takes bytes (number y.0) y.1 × (y.0 < 2 ^ 64))
    (some_is (from_be_bytes w64 a.0.0, a.0.1) x a.2) (front, long_below a.0.0 o.2)

long_again : (n : ℕ) (rest : List ℕ) → n < 2 ^ 64 → cut_long (number n ++ rest) ≡ Some (n, rest)
unfolding cut_long
long_again n rest lt = rw (octets_again 8 (number n) rest refl, from_be_bytes-to_be_bytes_8 n lt) refl

place_takes : (bytes : List ℕ) (x : (ℕ × ℕ) × List ℕ) → IsBytes bytes → cut_place bytes ≡ Some x →
    Takes bytes (short x.0.0 ++ short x.0.1) x.1 × (x.0.1 < 2 ^ 32)
unfolding cut_place
place_takes bytes x fits e =
    let a = then_some (cut_short bytes) (λ p. then (cut_short p.1) (λ c. Some ((p.0, c.0), c.1))) x e in
    let b = then_some (cut_short a.0.1) (λ c. Some ((a.0.0, c.0), c.1)) x a.2 in
    let t0 = short_takes bytes a.0 fits a.1 in
    let t1 = short_takes a.0.1 b.0 t0.0.rest_fits b.1 in
    let all = Takes-then bytes (short a.0.0) a.0.1 (short b.0.0) b.0.1 t0.0 t1.0 in
    let made : (ℕ × ℕ) × List ℕ = ((a.0.0, b.0.0), b.0.1) in
    subst (λ (y : (ℕ × ℕ) × List ℕ). Takes bytes (short y.0.0 ++ short y.0.1) y.1 × (y.0.1 < 2 ^ 32))
    (some_is made x b.2) (all, t1.1)

place_again : (place count : ℕ) (rest : List ℕ) → place < 2 ^ 32 → count < 2 ^ 32 →
    cut_place (short place ++ (short count ++ rest)) ≡ Some ((place, count), rest)
unfolding cut_place
place_again place count rest h k = rw (short_again place (short count ++ rest) h, short_again count rest k) refl

-- ---- what follows the kind

abbrev part_made : ℕ → ℕ → ℕ → ℕ → List ℕ → Portion (List ℕ)
part_made sender message place count piece =
    record { label = record { sender = sender; number = message; count = count }; place = place; piece = piece }

-- what the octets after a part's kind are known to be
record IsPortion (bytes : List ℕ) (p : Portion (List ℕ)) : Type 0 where
  octets : bytes ≡ p.label.sender ∷ portion_octets p.label.number p.place p.label.count p.piece
  number_is : p.label.number < 2 ^ 64
  count_is : p.label.count < 2 ^ 32
  place_is : p.place < p.label.count
  there : 1 ≤ length p.piece

portion_takes : (bytes : List ℕ) (p : Portion (List ℕ)) → IsBytes bytes → cut_portion bytes ≡ Some p → IsPortion bytes p
unfolding cut_portion
portion_takes bytes p fits e =
    let a = then_some (cut_octet bytes)
    (λ s. then (cut_long s.1) (λ n. then (cut_place n.1) (λ q. portion_of s.0 n.0 q.0.0 q.0.1 q.1))) p e in
    let b = then_some (cut_long a.0.1) (λ n. then (cut_place n.1) (λ q. portion_of a.0.0 n.0 q.0.0 q.0.1 q.1)) p a.2 in
    let c = then_some (cut_place b.0.1) (λ q. portion_of a.0.0 b.0.0 q.0.0 q.0.1 q.1) p b.2 in
    let made = part_made a.0.0 b.0.0 c.0.0.0 c.0.0.1 c.0.1 in
    let g = guard_some (nat_lt c.0.0.0 c.0.0.1 && nat_lt 0 (length c.0.1)) made p c.2 in
    let h = both_hold (nat_lt c.0.0.0 c.0.0.1) (nat_lt 0 (length c.0.1)) g.0 in
    let t0 = octet_takes bytes a.0 fits a.1 in
    let t1 = long_takes a.0.1 b.0 t0.rest_fits b.1 in
    let t2 = place_takes b.0.1 c.0 t1.0.rest_fits c.1 in
    let there : 0 < length c.0.1 = ltb-true 0 (length c.0.1) h.1 in
    let behind : b.0.1 ≡ short c.0.0.0 ++ (short c.0.0.1 ++ c.0.1) = t2.0.parts ∙ append_assoc (short c.0.0.0)
    (short c.0.0.1) c.0.1 in
    subst (IsPortion bytes) g.1 (record {
      octets = t0.parts ∙ ap (λ (l : List ℕ). a.0.0 ∷ l) (t1.0.parts ∙ ap (λ (l : List ℕ). number b.0.0 ++ l) behind);
      number_is = t1.1;
      count_is = t2.1;
      place_is = ltb-true c.0.0.0 c.0.0.1 h.0;
      there = omega (arith, there);
    })

portion_again : (sender message place count : ℕ) (piece : List ℕ) → message < 2 ^ 64 → count < 2 ^ 32 →
    place < count → 1 ≤ length piece → cut_portion (sender ∷ portion_octets message place count piece) ≡
    Some (part_made sender message place count piece)
unfolding cut_portion
portion_again sender message place count piece n c lt there =
    let one : nat_lt place count ≡ true = lt-ltb place count lt in
    let two : nat_lt 0 (length piece) ≡ true = lt-ltb 0 (length piece) (omega (arith, there)) in
    let small : place < 2 ^ 32 = omega (arith, lt, c) in
    rw (
      octet_again sender (portion_octets message place count piece),
      long_again message (short
          place ++ (short count ++ piece)) n,
      place_again place count piece small c,
      all_hold (nat_lt place count)
          (nat_lt 0 (length piece)) one two,
    ) refl

part_said_takes : (bytes : List ℕ) (p : Portion (List ℕ)) → IsBytes bytes → cut_part_said bytes ≡ Some p →
    (rest : List ℕ) × (bytes ≡ 13 ∷ rest) × IsPortion rest p
unfolding cut_part_said
part_said_takes bytes p fits e =
    let a = then_some (cut_octet bytes) (λ k. cond (k.0 == 13) (cut_portion k.1) None) p e in
    let t0 = octet_takes bytes a.0 fits a.1 in
    elim (chosen (a.0.0 == 13) (cut_portion a.0.1) None (Some p) a.2) [
      | inr h ↦ absurd cc
      | inl h ↦
          (let kind : a.0.0 ≡ 13 = eqb-true a.0.0 13 h.0 in
          (a.0.1, t0.parts ∙ ap (λ (n : ℕ). n ∷ a.0.1) kind, portion_takes a.0.1 p t0.rest_fits h.1))
    ]

part_said_again : (rest : List ℕ) (p : Portion (List ℕ)) → cut_portion rest ≡ Some p → cut_part_said (13 ∷ rest) ≡
    Some p
unfolding cut_part_said
part_said_again rest p e = rw (octet_again 13 rest, e) refl

-- ---- a part

record IsPartRest (bytes : List ℕ) (x : ℕ × Portion (List ℕ)) : Type 0 where
  octets : bytes ≡ part_rest x.0 x.1.label.sender x.1.label.number x.1.place x.1.label.count x.1.piece
  cluster_is : IsCluster x.0
  number_is : x.1.label.number < 2 ^ 64
  count_is : x.1.label.count < 2 ^ 32
  place_is : x.1.place < x.1.label.count
  there : 1 ≤ length x.1.piece

part_rest_takes : (bytes : List ℕ) (x : ℕ × Portion (List ℕ)) → IsBytes bytes → cut_part_rest bytes ≡ Some x →
    IsPartRest bytes x
unfolding cut_part_rest
part_rest_takes bytes x fits e =
    let a = then_some (cut_head bytes) (λ c. then (cut_part_said c.1) (λ p. Some (c.0, p))) x e in
    let b = then_some (cut_part_said a.0.1) (λ p. Some (a.0.0, p)) x a.2 in
    let t0 = head_takes bytes a.0 fits a.1 in
    let t1 = part_said_takes a.0.1 b.0 t0.0.rest_fits b.1 in
    let made : ℕ × Portion (List ℕ) = (a.0.0, b.0) in
    let said : a.0.1 ≡ 13 ∷ b.0.label.sender ∷ portion_octets b.0.label.number b.0.place b.0.label.count b.0.piece =
    t1.1 ∙ ap (λ (l : List ℕ). 13 ∷ l) t1.2.octets in
    subst (IsPartRest bytes) (some_is made x b.2) (record {
      octets = t0.0.parts ∙ ap (λ (l : List ℕ). 2 ∷ (cluster_octets a.0.0 ++ l)) said;
      cluster_is = t0.1;
      number_is = t1.2.number_is;
      count_is = t1.2.count_is;
      place_is = t1.2.place_is;
      there = t1.2.there;
    })

-- A part that is cut was spelled so.
pub part_takes : (bytes : List ℕ) (x : ℕ × Portion (List ℕ)) → IsBytes bytes → cut_part bytes ≡ Some x →
    IsPart x.0 x.1 bytes
unfolding cut_part
part_takes bytes x fits e =
    let a = then_some (cut_short bytes) (λ n. then (sized n.0 n.1) cut_part_rest) x e in
    let b = then_some (sized a.0.0 a.0.1) cut_part_rest x a.2 in
    let g = guard_some (nat_le (a.0.0 + 4) limit && length a.0.1 == a.0.0) a.0.1 b.0 b.1 in
    let h = both_hold (nat_le (a.0.0 + 4) limit) (length a.0.1 == a.0.0) g.0 in
    let small : a.0.0 + 4 ≤ limit = leb-true (a.0.0 + 4) limit h.0 in
    let sized-is : length a.0.1 ≡ a.0.0 = eqb-true (length a.0.1) a.0.0 h.1 in
    let t = short_takes bytes a.0 fits a.1 in
    let r = part_rest_takes a.0.1 x t.0.rest_fits (ap cut_part_rest g.1 ∙ b.2) in
    let len : length bytes ≡ 4 + length a.0.1 = ap length t.0.parts ∙ length-append (short a.0.0) a.0.1 in
    record {
      spelled = t.0.parts ∙ ap (λ (n : ℕ). short n ++ a.0.1) (sym sized-is)
          ∙ ap (λ (l : List ℕ). short (length l) ++ l) r.octets;
      cluster_is = r.cluster_is;
      number_is = r.number_is;
      count_is = r.count_is;
      place_is = r.place_is;
      there = r.there;
      small = omega (arith, len, small, sized-is);
    }

part_rest_again : (cluster : ℕ) (p : Portion (List ℕ)) → IsCluster cluster → p.label.number < 2 ^ 64 →
    p.label.count < 2 ^ 32 → p.place < p.label.count → 1 ≤ length p.piece
    → cut_part_rest (part_rest cluster p.label.sender p.label.number p.place p.label.count p.piece) ≡ Some (cluster, p)
unfolding cut_part_rest
part_rest_again cluster p h n c lt there =
    let rest = p.label.sender ∷ portion_octets p.label.number p.place p.label.count p.piece in
    rw (
      head_again cluster (13 ∷ rest) h,
      part_said_again rest p (portion_again p.label.sender p.label.number p.place
          p.label.count p.piece n c lt there),
    ) refl

-- A part is cut again.
pub part_again : (cluster : ℕ) (p : Portion (List ℕ)) (frame : List ℕ) → IsPart cluster p frame → cut_part frame ≡
    Some (cluster, p)
unfolding cut_part
part_again cluster p frame h =
    let rest = part_rest cluster p.label.sender p.label.number p.place p.label.count p.piece in
    let n = length rest in
    let len : length frame ≡ 4 + n = ap length h.spelled ∙ length-append (short n) rest in
    let ok : (nat_le (n + 4) limit && n == n) ≡ true = all_hold (nat_le (n + 4) limit) (n == n)
    (le-leb (n + 4) limit (omega (arith, len, h.small))) (eq-eqb n n refl) in
    ap cut_part h.spelled
    ∙ rw (
      short_again n rest (omega
          (arith, len, h.small)),
      ok,
      part_rest_again cluster p h.cluster_is h.number_is h.count_is h.place_is h.there,
    )
    refl

-- Octets from which no part is cut are none of any cluster.
pub no_part : (frame : List ℕ) → cut_part frame ≡ None → (other : ℕ) (p : Portion (List ℕ)) → IsPart other p frame → ⊥
no_part frame none other p is = not_some (other, p) (cut_part frame) none (part_again other p frame is)

-- Octets are a part of one cluster, and one part, at most.
pub one_part : (frame : List ℕ) (cluster other : ℕ) (p q : Portion (List ℕ)) → IsPart cluster p frame →
    IsPart other q frame → (cluster ≡ other) × (p ≡ q)
one_part frame cluster other p q a b =
    let same : (cluster, p) ≡ (other, q) = some_is (cluster, p) (other, q) (sym (part_again cluster p frame a)
    ∙ part_again other q frame b) in
    (ap (λ (y : ℕ × Portion (List ℕ)). y.0) same, ap (λ (y : ℕ × Portion (List ℕ)). y.1) same)

-- ---- what octets say

-- the octets of a message whose payloads are octets are cut so
pub saying_takes : (bytes : List ℕ) (raw : PeerMessage (List ℕ)) (m : PeerMessage OpValue) → IsBytes bytes →
    cut_saying bytes ≡ Some raw → IsMessageOf m raw → IsSaying m bytes
unfolding cut_saying
saying_takes bytes raw m fits e is =
    let a = then_some (cut_octet bytes) (λ k. cut_body k.0 k.1) raw e in
    let t0 = octet_takes bytes a.0 fits a.1 in
    let t1 = body_takes a.0.0 a.0.1 raw t0.rest_fits a.2 in
    record {
      raw = raw;
      spelled = t0.parts ∙ ap (λ (n : ℕ). n ∷ a.0.1) (sym t1.kind_is) ∙ ap (λ (l : List ℕ). kind_of raw ∷ l) t1.octets;
      range = t1.range;
      payloads = is;
    }

pub saying_again : (bytes : List ℕ) (m : PeerMessage OpValue) (s : IsSaying m bytes) → cut_saying bytes ≡ Some s.raw
unfolding cut_saying
saying_again bytes m s = ap cut_saying s.spelled
    ∙ rw (octet_again (kind_of s.raw) (body_octets s.raw), body_again s.raw s.range) refl

pub saying_refused : (e : WireError) (bytes : List ℕ) → Fails e (cut_saying bytes) → Refuses IsSaying e bytes
saying_refused error.BadFrame bytes none = λ m s. not_some s.raw (cut_saying bytes) none (saying_again bytes m s)
saying_refused error.ForeignFrame bytes none = none
saying_refused error.NoMemory bytes none = tt

saying_lacks : (bytes : List ℕ) (raw : PeerMessage (List ℕ)) → cut_saying bytes ≡ Some raw →
    ((m : PeerMessage OpValue) → IsMessageOf m raw → ⊥) → (m : PeerMessage OpValue) → IsSaying m bytes → ⊥
saying_lacks bytes raw e r m s =
    let same : s.raw ≡ raw = some_is s.raw raw (sym (saying_again bytes m s) ∙ e) in
    r m (subst (λ (x : PeerMessage (List ℕ)). IsMessageOf m x) same s.payloads)

pub saying_without : (e : WireError) (bytes : List ℕ) (raw : PeerMessage (List ℕ)) → cut_saying bytes ≡ Some raw →
    Refuses IsMessageOf e raw → Refuses IsSaying e bytes
saying_without error.BadFrame bytes raw e r = saying_lacks bytes raw e r
saying_without error.ForeignFrame bytes raw e r = r
saying_without error.NoMemory bytes raw e r = tt
