-- Frames: octets cut in pieces of one size, and the parts that hold them.
use Rattle.std.proofs.Common.{◌≡◌, ℕ, zero, suc, ◌+◌, ◌-◌, ◌*◌, ◌^◌, ◌<◌, ◌≤◌, min, List, [], ◌∷◌, ◌++◌, length, take, drop, refl, sym, ap, subst, ◌∙◌, arith}
use Rattle.std.proofs.Common.{inl, inr, Result, Ok, Err}
use Rattle.std.proofs.Math.Nat.{suc-mul, zero-mul}
use Rattle.std.proofs.lemmas.Bool.{cases_lt}
use Rattle.std.proofs.lemmas.List.{take-append-drop, nil_from_length, length-append, length-take, length-drop, drop-drop}
use Rattle.std.specs.List.{concat, AllByRecursion}
use Rattle.vr_state.specs.declared.message.PeerMessage.{PeerMessage}
use Rattle.vr_wire.specs.declared.error.WireError.{WireError}
use Rattle.vr_wire.specs.declared.error.WireError.TheVariants as error
use Rattle.vr_wire.specs.Frames.{limit, short, rest_octets, frame_octets}
use Rattle.vr_wire.specs.private.Putting.{IsLonger}
use Rattle.vr_wire.specs.Parts.{part_head, part_octets, parts_from, pieces_of, saying_octets, ArePartsOf}
use Rattle.vr_wire.specs.private.Parts.{ArePartsWithin, CutsFrames, IsNotSent, MakesParts}

pieces_joined : (size n : ℕ) (o : List ℕ) → length o ≤ n * size → concat (pieces_of size n o) ≡ o
pieces_joined size zero o le = sym (nil_from_length o (omega (arith, zero-mul size, le)))
pieces_joined size (suc n) o le =
    ap (λ (l : List ℕ). take size o ++ l) (pieces_joined size n (drop size o)
    (omega (arith, length-drop size o, suc-mul n size, le))) ∙ take-append-drop size o

pieces_count : (size n : ℕ) (o : List ℕ) → length (pieces_of size n o) ≡ n
pieces_count size zero o = refl
pieces_count size (suc n) o = ap suc (pieces_count size n (drop size o))

pieces_there : (size k : ℕ) (o : List ℕ) → 0 < size → k * size < length o →
    AllByRecursion (λ (p : List ℕ). 1 ≤ length p) (pieces_of size (suc k) o)
pieces_there size zero o one lt = (omega (arith, length-take size o, lt, one), tt)
pieces_there size (suc k) o one lt = (
  omega (arith, length-take size o, lt, one),
  pieces_there size k (drop size o) one (omega
      (arith, length-drop size o, suc-mul k size, lt)),
)

part_len : (cluster sender message place count : ℕ) (p : List ℕ) →
    length (part_octets cluster sender message place count p) ≡ part_head + length p
part_len cluster sender message place count p = omega arith

pieces_small : (cluster sender message count place size n : ℕ) (o : List ℕ) →
    AllByRecursion (λ (f : List ℕ). length f ≤ part_head + size) (parts_from cluster sender message count place
    (pieces_of size n o))
pieces_small cluster sender message count place size zero o = tt
pieces_small cluster sender message count place size (suc n) o = (
  omega (
    arith,
    part_len cluster sender message place count (take size
        o),
    length-take size o,
  ),
  pieces_small cluster sender message count (suc place) size n (drop size o),
)

within_limit : (most : ℕ) (frames : List (List ℕ)) → most ≤ limit → AllByRecursion (λ (f : List ℕ). length f ≤ most)
    frames → AllByRecursion (λ (f : List ℕ). length f ≤ limit) frames
within_limit most [] le all = tt
within_limit most (f ∷ fs) le all = (omega (arith, le, all.0), within_limit most fs le all.1)

-- pieces that cover the octets, none of which is empty, are the parts of them
pub made : (size cluster sender message count : ℕ) (o : List ℕ) → 0 < size → part_head + size ≤ limit → 0 < length o →
    length o ≤ count * size → (count - 1) * size < length o → count < 2 ^ 32
    → ArePartsWithin size cluster sender message o (parts_from cluster sender message count 0 (pieces_of size count o))
made size cluster sender message zero o one le some covers least few =
    absurd (omega (arith, zero-mul size, covers, some))
made size cluster sender message (suc k) o one le some covers least few =
    let count = suc k in
    let before : k * size < length o = subst (λ (n : ℕ). n * size < length o) (omega arith) least in
    let all = pieces_small cluster sender message count 0 size count o in
    let parts : ArePartsOf cluster sender message o (parts_from cluster sender message count 0
    (pieces_of size count o)) = record {
      pieces = pieces_of size count o;
      joined = pieces_joined size count o covers;
      spelled = ap (λ (n : ℕ). parts_from cluster sender message n 0 (pieces_of size count o))
          (sym (pieces_count size count o));
      few = subst (λ (n : ℕ). n < 2 ^ 32) (sym (pieces_count size count o)) few;
      there = pieces_there size k o one before;
      small = within_limit (part_head + size) (parts_from cluster sender message count 0 (pieces_of size count o)) le
          all;
    } in
    record { parts = parts; pieces = all }

-- the next part, and those after it
pub left_next : (cluster sender message count place size : ℕ) (o : List ℕ) → place < count
    → parts_from cluster sender message count place (pieces_of size (count - place) o) ≡ part_octets cluster sender
    message place count (take size o) ∷ parts_from cluster sender message count (place + 1)
    (pieces_of size (count - (place + 1)) (drop size o))
left_next cluster sender message count place size o lt =
    let k : count - place ≡ suc (count - (place + 1)) = omega arith in
    let next : suc place ≡ place + 1 = omega arith in
    ap (λ (n : ℕ). parts_from cluster sender message count place (pieces_of size n o)) k
    ∙ ap (λ (n : ℕ). part_octets cluster sender message place count (take size o) ∷ parts_from cluster sender message
    count n (pieces_of size (count - (place + 1)) (drop size o))) next

-- none is left
pub left_none : (cluster sender message count place size : ℕ) (o : List ℕ) → place ≡ count → parts_from cluster sender
    message count place (pieces_of size (count - place) o) ≡ []
left_none cluster sender message count place size o is =
    let k : count - place ≡ 0 = omega arith in
    ap (λ (n : ℕ). parts_from cluster sender message count place (pieces_of size n o)) k

-- ---- the parts that are left, as a program keeps them

no_more : (start size : ℕ) (o : List ℕ) → length o ≤ start + size → drop (start + size) o ≡ []
no_more start size o le = nil_from_length (drop (start + size) o) (omega (arith, length-drop (start + size) o, le))

-- what follows the next piece begins where that piece ends
pub after_piece : (start size end : ℕ) (o : List ℕ) → start ≤ length o → end ≡ min (start + size) (length o) →
    drop size (drop start o) ≡ drop end o
after_piece start size end o le is =
    elim (cases_lt (length o) (start + size)) [
      | inl lt ↦
          (let first : drop size (drop start o) ≡ [] = nil_from_length (drop size (drop start o))
          (omega (arith, length-drop size (drop start o), length-drop start o, lt)) in
          let second : drop end o ≡ [] = nil_from_length (drop end o) (omega (arith, length-drop end o, lt, is)) in
          first ∙ sym second)
      | inr ge ↦
          (let same : start + size ≡ end = omega (arith, ge, is) in
          drop-drop size start o ∙ ap (λ (n : ℕ). drop n o) same)
    ]

-- the next part is handed out, and the others are left
pub handed : (cluster sender message count place size start end : ℕ) (o frame : List ℕ) → place < count →
    start ≤ length o → end ≡ min (start + size) (length o)
    → frame ≡ part_octets cluster sender message place count (take size (drop start o))
    → parts_from cluster sender message count place (pieces_of size (count - place) (drop start o)) ≡
    frame ∷ parts_from cluster sender message count (place + 1) (pieces_of size (count - (place + 1)) (drop end o))
handed cluster sender message count place size start end o frame lt le is spelled =
    left_next cluster sender message count place size (drop start o) lt
    ∙ ap (λ (f : List ℕ). f ∷ parts_from cluster sender message count (place + 1)
    (pieces_of size (count - (place + 1)) (drop size (drop start o)))) (sym spelled)
    ∙ ap (λ (l : List ℕ). frame ∷ parts_from cluster sender message count (place + 1)
    (pieces_of size (count - (place + 1)) l)) (after_piece start size end o le is)

-- a part of a piece of this size is within the limit
pub part_small : (cluster sender message place count size : ℕ) (o frame : List ℕ) → part_head + size ≤ limit →
    frame ≡ part_octets cluster sender message place count (take size o) → length frame ≤ limit
part_small cluster sender message place count size o frame le spelled =
    subst (λ (f : List ℕ). length f ≤ limit) (sym spelled)
    (omega (arith, part_len cluster sender message place count (take size o), length-take size o, le))

-- the parts of a message that has no frame are its frames
no_longer : (less more : ℕ) (frames : List (List ℕ)) → less ≤ more →
    AllByRecursion (λ (f : List ℕ). length f ≤ part_head + less) frames →
    AllByRecursion (λ (f : List ℕ). length f ≤ part_head + more) frames
no_longer less more [] le h = tt
no_longer less more (f ∷ fs) le h = (omega (arith, le, h.0), no_longer less more fs le h.1)

saying_shorter : (cluster sender : ℕ) (m : PeerMessage (List ℕ)) → length (saying_octets m) ≤ length
    (frame_octets cluster sender m)
saying_shorter cluster sender m = omega arith

not_sent_longer : (e : WireError) (some more : List ℕ) → length some ≤ length more → IsNotSent e some → IsNotSent e more
not_sent_longer error.BadFrame some more le h = omega (arith, le, h)
not_sent_longer error.ForeignFrame some more le h = h
not_sent_longer error.NoMemory some more le h = tt

pub in_parts : (most size piece cluster sender number : ℕ) (m : PeerMessage (List ℕ)) (saying : List ℕ)
    (r : Result (List (List ℕ)) WireError) → most < length (frame_octets cluster sender m) → piece ≤ size →
    saying ≡ saying_octets m
    → MakesParts piece cluster sender number saying r → CutsFrames most size cluster sender number m r
in_parts most size piece cluster sender number m saying (Ok frames) long le is h =
    let parts = subst (λ (s : List ℕ). ArePartsOf cluster sender number s frames) is h.parts in
    record {
      plain = λ fits. absurd (omega (arith, long, fits));
      parts = λ over. parts;
      pieces = λ over. no_longer
          piece size frames le h.pieces;
      small = parts.small;
    }
in_parts most size piece cluster sender number m saying (Err e) long le is h =
    not_sent_longer e (saying_octets m) (frame_octets cluster sender m) (saying_shorter cluster sender m)
    (subst (IsNotSent e) is h)

pub not_made : (most size cluster sender number : ℕ) (m : PeerMessage (List ℕ)) (e : WireError) →
    IsLonger 4294967295 e (length (0 ∷ 0 ∷ 0 ∷ 0 ∷ rest_octets cluster sender m)) → CutsFrames most size cluster
    sender number m (Err e)
not_made most size cluster sender number m error.BadFrame h =
    omega (arith, h, length-append (short (length (rest_octets cluster sender m))) (rest_octets cluster sender m))
not_made most size cluster sender number m error.ForeignFrame h = h
not_made most size cluster sender number m error.NoMemory h = tt
