-- Pieces between spaces, found from the front.
use Rattle.std.proofs.Common.{◌≡◌, ◌++◌, ℕ, ◌+◌, ◌<◌, ◌≤◌, List, [], ◌∷◌, true, false, drop, length, get_or, refl, ap, sym, ◌∙◌, append_assoc, add-one, arith}
use Rattle.std.specs.List.{slice_range}
use Rattle.std.proofs.Math.Seq.{drop-cons}
use Rattle.std.proofs.lemmas.List.{drop_all}
use Rattle.schema_faults.specs.declared.pieces.Scan.{Scan}
use Rattle.schema_faults.specs.Pieces.{is_break, next_of, piece_of, pieces_from}

pieces_next : (s : Scan) (front text : List ℕ) (i : ℕ) → i < length text → pieces_from s front (drop i text) ≡
    pieces_from s front (get_or text i 0 ∷ drop (i + 1) text)
pieces_next s front text i h = rw (add-one, drop-cons text i 0) refl

pieces_true : (s : Scan) (front : List ℕ) (octet : ℕ) (octets : List ℕ) → is_break s octet ≡ true →
    piece_of front ++ pieces_from (next_of s octet) [] octets ≡ pieces_from s front (octet ∷ octets)
pieces_true s front octet octets b = rw b refl

pieces_false : (s : Scan) (front : List ℕ) (octet : ℕ) (octets : List ℕ) → is_break s octet ≡ false →
    pieces_from (next_of s octet) (front ++ octet ∷ []) octets ≡ pieces_from s front (octet ∷ octets)
pieces_false s front octet octets b = rw b refl

-- one more octet, which ends a piece
pub ends_piece : (done more : List (List ℕ)) (front empty : List ℕ) (s next : Scan) (text : List ℕ) (i : ℕ)
    (whole : List (List ℕ)) →
    i < length text → more ≡ done ++ piece_of front → empty ≡ [] → next ≡ next_of s (get_or text i 0) →
    is_break s (get_or text i 0) ≡ true →
    done ++ pieces_from s front (drop i text) ≡ whole → more ++ pieces_from next empty (drop (i + 1) text) ≡ whole
ends_piece done more front empty s next text i whole h m n k b w =
    rw (m, n, k) (append_assoc done (piece_of front) _ ∙ ap (λ x. done ++ x) (pieces_true s front (get_or text i 0)
    (drop (i + 1) text) b ∙ sym (pieces_next s front text i h)) ∙ w)

-- one more octet of a piece
pub piece_goes_on : (done more : List (List ℕ)) (front longer : List ℕ) (s next : Scan) (text : List ℕ) (i : ℕ)
    (whole : List (List ℕ)) →
    i < length text → more ≡ done → longer ≡ front ++ get_or text i 0 ∷ [] → next ≡ next_of s (get_or text i 0) →
    is_break s (get_or text i 0) ≡ false →
    done ++ pieces_from s front (drop i text) ≡ whole → more ++ pieces_from next longer (drop (i + 1) text) ≡ whole
piece_goes_on done more front longer s next text i whole h m n k b w =
    rw (m, n, k) (ap (λ x. done ++ x) (pieces_false s front (get_or text i 0) (drop (i + 1) text) b
    ∙ sym (pieces_next s front text i h)) ∙ w)

-- the end of the last piece
pub ends_last : (done more : List (List ℕ)) (text : List ℕ) (start i : ℕ) (s : Scan) (whole : List (List ℕ)) →
    length text ≤ i → i ≤ length text → more ≡ done ++ piece_of (slice_range text start (length text)) →
    done ++ pieces_from s (slice_range text start i) (drop i text) ≡ whole → more ≡ whole
ends_last done more text start i s whole a b m w =
    let n : length text ≡ i = omega arith in
    m ∙ ap (λ k. done ++ piece_of (slice_range text start k)) n
    ∙ ap (λ x. done ++ pieces_from s (slice_range text start i) x) (sym (drop_all i text a)) ∙ w
