-- Octets that are copied out of pieces, and pieces that are let go.
use Rattle.std.proofs.Common.{◌≡◌, ℕ, zero, suc, ◌+◌, ◌-◌, ◌≤◌, ◌<◌, List, [], ◌∷◌, ◌++◌, length, take, drop, min, get_or, Vec, refl, sym, ap, ap₂, ◌∙◌, subst, arith, append_assoc, length-append, length-drop, take-append-drop}
use Rattle.std.proofs.lemmas.List.{append-nil, take_at, take_all, length-take-le, drop_all, drop_at, drop-append-le, drop_min, drop-drop, at_drop_more}
use Rattle.file_device.specs.private.Pieces.{octets_in}

-- What is left out from the front of two lists is so of the first, and then of the second.
pub left_out : (skip : ℕ) (p rest : List ℕ) → drop skip (p ++ rest) ≡ drop skip p ++ drop (skip - length p) rest
left_out zero p rest = let e : 0 ≡ 0 - length p = omega arith in ap (λ k. p ++ drop k rest) e
left_out (suc k) [] rest = let e : suc k ≡ suc k - 0 = omega arith in ap (λ j. drop j rest) e
left_out (suc k) (x ∷ p) rest = let e : k - length p ≡ suc k - suc (length p) = omega arith in left_out k p rest
    ∙ ap (λ j. drop k p ++ drop j rest) e

-- the octets from a piece on
pub from_piece : {A : Type 0} (pieces : List (Vec ℕ A)) (i : ℕ) (p : Vec ℕ A) → i < length pieces →
    p ≡ get_or pieces i p → octets_in (drop i pieces) ≡ p.items ++ octets_in (drop (i + 1) pieces)
from_piece pieces i p lt is = at_drop_more octets_in pieces i p lt
    ∙ ap (λ x. x.items ++ octets_in (drop (i + 1) pieces)) (sym is)

-- Of what is wanted so many octets are at the front of the buffer, and the rest is left.
pub record IsCopied (wanted buffer : List ℕ) (done room : ℕ) (rest : List ℕ) : Type 0 where
  pub within : done ≤ length buffer
  pub long : length buffer ≡ room
  pub is : wanted ≡ take done buffer ++ rest

-- before the first octet
pub none_copied : (wanted buffer : List ℕ) → IsCopied wanted buffer 0 (length buffer) wanted
none_copied wanted buffer = record { within = omega arith; long = refl; is = refl }

-- The buffer is full.
pub all_copied : (wanted buffer : List ℕ) (done room : ℕ) (rest : List ℕ) → IsCopied wanted buffer done room rest →
    done ≡ length buffer → buffer ≡ take room wanted
all_copied wanted buffer done room rest h full =
    sym (ap (take room) h.is ∙ take_at (take done buffer) rest room (ap length whole ∙ h.long) ∙ whole)
  where
    whole : take done buffer ≡ buffer
    whole = take_all done buffer (omega (arith, full))

-- Where no piece is left and there were enough octets, the buffer is full.
pub whole_copied : {A : Type 0} (wanted buffer : List ℕ) (done room skip : ℕ) (pieces : List (Vec ℕ A)) (i : ℕ) →
    IsCopied wanted buffer done room (drop skip (octets_in (drop i pieces))) → length pieces ≤ i →
    room ≤ length wanted → done ≡ length buffer
whole_copied wanted buffer done room skip pieces i h last enough =
    let none : drop skip (octets_in (drop i pieces)) ≡ [] = ap (λ l. drop skip (octets_in l)) (drop_all i pieces last)
    ∙ drop_all skip [] (omega arith) in
    omega (
      arith,
      h.within,
      h.long,
      enough,
      ap length h.is,
      length-append (take done buffer) (drop skip
          (octets_in (drop i pieces))),
      ap length none,
      length-take-le done buffer h.within,
    )

-- so many octets more of a piece
pub more_copied : (wanted old new : List ℕ) (done room count : ℕ) (front rest : List ℕ) →
    IsCopied wanted old done room (front ++ rest)
    → count ≡ min (length front) (length old - done) → length new ≡ length old → take (done + count) new ≡
    take done old ++ take count front
    → IsCopied wanted new (done + count) room (drop count front ++ rest)
more_copied wanted old new done room count front rest h counted long copied = record {
  within = omega (arith, h.within, counted, long);
  long = long ∙ h.long;
  is = h.is ∙ ap (λ (l : List ℕ). take done old ++ (l ++ rest)) (sym (take-append-drop count front))
      ∙ ap (λ (l : List ℕ). take done old ++ l) (append_assoc (take count front) (drop count front) rest)
      ∙ sym (append_assoc (take done old) (take count front) (drop count front ++ rest))
      ∙ ap (λ (l : List ℕ). l ++ (drop count front ++ rest)) (sym copied);
}

-- one piece more
module _ {A : Type 0} (wanted old new : List ℕ) (done room count skip from : ℕ) (pieces : List (Vec ℕ A)) (i : ℕ)
    (p : Vec ℕ A) (octets : List ℕ) (lt : i < length pieces) (is : p ≡ get_or pieces i p)
    (octets_is : octets ≡ p.items) (from_is : from ≡ min skip (length octets)) (h : IsCopied wanted old done room
    (drop skip (octets_in (drop i pieces))))
    (counted : count ≡ min (length octets - from) (length old - done)) (long : length new ≡ length old)
    (copied : take (done + count) new ≡ take done old ++ take count (drop from octets)) where
  abbrev rest : List ℕ
  rest = drop (skip - from) (octets_in (drop (i + 1) pieces))

  rest_is : drop skip (octets_in (drop i pieces)) ≡ drop from octets ++ rest
  rest_is =
      let e : skip - length octets ≡ skip - from = omega (arith, from_is) in
      ap (drop skip) (from_piece pieces i p lt is ∙ ap (λ (l : List ℕ). l ++ octets_in (drop (i + 1) pieces))
      (sym octets_is)) ∙ left_out skip octets (octets_in (drop (i + 1) pieces))
      ∙ ap₂ (λ (l : List ℕ) k. l ++ drop k (octets_in (drop (i + 1) pieces))) (sym (drop_min skip octets)
      ∙ ap (λ k. drop k octets) (sym from_is)) e

  counted_front : count ≡ min (length (drop from octets)) (length old - done)
  counted_front = omega (arith, counted, length-drop from octets)

  goes_on : IsCopied wanted new (done + count) room (drop count (drop from octets) ++ rest)
  goes_on = more_copied wanted old new done room count (drop from octets) rest
      (subst (λ (l : List ℕ). IsCopied wanted old done room l) rest_is h) counted_front long copied

  -- The buffer is full then,
  pub full_then : done + count ≡ length new → new ≡ take room wanted
  full_then full = all_copied wanted new (done + count) room (drop count (drop from octets) ++ rest) goes_on full

  -- or the piece was copied to its end.
  pub done_then : (done + count ≡ length new → ⊥) → IsCopied wanted new (done + count) room rest
  done_then not_full =
      subst (λ (l : List ℕ). IsCopied wanted new (done + count) room (l ++ rest))
      (drop_all count (drop from octets) (omega (arith, counted_front, long, h.within, not_full))) goes_on

-- the octets of pieces with one more
pub octets_push : {A : Type 0} (pieces : List (Vec ℕ A)) (p : Vec ℕ A) → octets_in (pieces ++ p ∷ []) ≡
    octets_in pieces ++ p.items
octets_push [] p = append-nil p.items
octets_push (q ∷ pieces) p = ap (λ (l : List ℕ). q.items ++ l) (octets_push pieces p)
    ∙ sym (append_assoc q.items (octets_in pieces) p.items)

-- octets that are written at the end
pub written_at_end : (octets piece : List ℕ) (size : ℕ) → size ≡ length octets →
    take size octets ++ (piece ++ drop (size + length piece) octets) ≡ octets ++ piece
written_at_end octets piece size e =
    ap₂ (λ (l m : List ℕ). l ++ (piece ++ m)) (take_all size octets (omega (arith, e)))
    (drop_all (size + length piece) octets (omega (arith, e)))
    ∙ ap (λ (l : List ℕ). octets ++ l) (append-nil piece)

-- So many of these octets, the last ones, are in pieces.
pub record IsKept {A : Type 0} (pieces : List (Vec ℕ A)) (size kept : ℕ) (octets : List ℕ) : Type 0 where
  pub sized : size ≡ length octets
  pub within : kept ≤ size
  pub are : octets_in pieces ≡ drop (size - kept) octets

-- A piece is joined.
pub joined : {A : Type 0} (pieces more : List (Vec ℕ A)) (p : Vec ℕ A) (octets new : List ℕ) (size kept count : ℕ) →
    IsKept pieces size kept octets → more ≡ pieces ++ p ∷ [] → new ≡ octets ++ p.items → count ≡ length p.items
    → IsKept more (size + count) (kept + count) new
joined pieces more p octets new size kept count h pushed e counted =
    let start : size + count - (kept + count) ≡ size - kept = omega arith in
    record {
      sized = omega (arith, h.sized, counted, ap length e, length-append octets p.items);
      within = omega (arith, h.within);
      are = ap octets_in pushed ∙ octets_push pieces p ∙ ap (λ (l : List ℕ). l ++ p.items) h.are
          ∙ sym (drop-append-le (size - kept) octets p.items (omega (arith, h.sized)))
          ∙ ap₂ (λ k (l : List ℕ). drop k l) (sym start) (sym e);
    }

-- The first piece is let go.
module _ {A : Type 0} (pieces : List (Vec ℕ A)) (p : Vec ℕ A) (size kept count : ℕ) (octets : List ℕ)
    (h : IsKept pieces size kept octets) (some : 0 < length pieces) (first : p ≡ get_or pieces 0 p) (counted : count ≡
    length p.items) where
  splits : drop (size - kept) octets ≡ p.items ++ octets_in (drop 1 pieces)
  splits = sym h.are ∙ from_piece pieces 0 p some first

  pub first_within : count ≤ kept
  first_within = omega (
    arith,
    h.within,
    h.sized,
    counted,
    ap length splits,
    length-append p.items (octets_in
        (drop 1 pieces)),
    length-drop (size - kept) octets,
  )

  pub first_let : (fewer : List (Vec ℕ A)) → fewer ≡ drop 1 pieces → IsKept fewer size (kept - count) octets
  first_let fewer e =
      let start : (size - kept) + length p.items ≡ size - (kept - count) =
      omega (arith, h.within, first_within, counted) in
      record {
        sized = h.sized;
        within = omega (arith, h.within);
        are = ap octets_in e ∙ sym (drop_at p.items (octets_in (drop 1 pieces)) (length p.items) refl)
            ∙ ap (drop (length p.items)) (sym splits) ∙ drop-drop (length p.items) (size - kept) octets
            ∙ ap (λ k. drop k octets) start;
      }
