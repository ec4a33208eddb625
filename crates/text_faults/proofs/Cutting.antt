-- Parts of octets, found from the front.
use Rattle.std.proofs.Common.{◌≡◌, ◌++◌, ℕ, ◌+◌, ◌-◌, ◌<◌, ◌≤◌, List, [], ◌∷◌, Bool, true, false, cond, map, take, drop, length, get_or, refl, sym, ap, ◌∙◌, append_assoc, append-nil, length-drop, add-one, arith}
use Rattle.std.specs.List.{slice_split, onto_first, slice_range}
use Rattle.std.proofs.Math.Seq.{drop-cons}
use Rattle.std.proofs.lemmas.List.{take_more, get_or-drop, drop_all}
use Rattle.text_faults.specs.Names.{escapes, is_bare, parts_from}

-- the parts of what is read of a part, and of the octets behind it
abbrev pub cut_from : List ℕ → Bool → ℕ → List ℕ → List (List ℕ)
cut_from front is_escaped mark [] = front ∷ []
cut_from front is_escaped mark (c ∷ cs) =
    cond (is_bare mark (c, is_escaped)) (front ∷ cut_from [] (is_bare 92 (c, is_escaped)) mark cs)
    (cut_from (front ++ c ∷ []) (is_bare 92 (c, is_escaped)) mark cs)

abbrev pub onto : List ℕ → List (List ℕ) → List (List ℕ)
onto front [] = front ∷ []
onto front (part ∷ parts) = (front ++ part) ∷ parts

abbrev pub octets_of : List (List (ℕ × Bool)) → List (List ℕ)
octets_of ps = map (map (λ o. o.0)) ps

-- parts are never none
onto_nothing : (p : ℕ × Bool → Bool) (os : List (ℕ × Bool)) → onto [] (octets_of (slice_split p os)) ≡
    octets_of (slice_split p os)
onto_nothing p [] = refl
onto_nothing p (o ∷ os) =
    elim (p o) as (λ b. onto [] (octets_of (cond b ([] ∷ slice_split p os) (onto_first o (slice_split p os)))) ≡
    octets_of (cond b ([] ∷ slice_split p os) (onto_first o (slice_split p os)))) [
      | true ↦ refl
      | false ↦ elim (slice_split p os) as (λ ps. onto [] (octets_of (onto_first o ps)) ≡ octets_of (onto_first o ps))
          [ [] ↦ refl | q ∷ qs ↦ refl ]
    ]

onto_one : (front : List ℕ) (o : ℕ × Bool) (ps : List (List (ℕ × Bool))) → onto (front ++ o.0 ∷ []) (octets_of ps) ≡
    onto front (octets_of (onto_first o ps))
onto_one front o [] = refl
onto_one front o (p ∷ ps) = ap (λ x. x ∷ octets_of ps) (append_assoc front (o.0 ∷ []) (map (λ o. o.0) p))

cut_onto : (front : List ℕ) (e : Bool) (mark : ℕ) (cs : List ℕ) → cut_from front e mark cs ≡
    onto front (parts_from e mark cs)
cut_onto front e mark [] = ap (λ x. x ∷ []) (sym (append-nil front))
cut_onto front e mark (c ∷ cs) =
    let next : Bool = is_bare 92 (c, e) in
    let rest : List (List (ℕ × Bool)) = slice_split (is_bare mark) (escapes next cs) in
    elim (is_bare mark (c, e)) as
    (λ b. cond b (front ∷ cut_from [] next mark cs) (cut_from (front ++ c ∷ []) next mark cs) ≡
    onto front (octets_of (cond b ([] ∷ rest) (onto_first (c, e) rest)))) [
      | true ↦ ap (λ x. front ∷ x) (cut_onto [] next mark cs ∙ onto_nothing (is_bare mark) (escapes next cs))
          ∙ ap (λ x. x ∷ octets_of rest) (sym (append-nil front))
      | false ↦ cut_onto (front ++ c ∷ []) next mark cs ∙ onto_one front (c, e) rest
    ]

-- the parts of all octets
pub cut_all : (mark : ℕ) (cs : List ℕ) → cut_from [] false mark cs ≡ parts_from false mark cs
cut_all mark cs = cut_onto [] false mark cs ∙ onto_nothing (is_bare mark) (escapes false cs)

cut_next : (front : List ℕ) (e : Bool) (mark : ℕ) (text : List ℕ) (i : ℕ) → i < length text →
    cut_from front e mark (drop i text) ≡ cut_from front e mark (get_or text i 0 ∷ drop (i + 1) text)
cut_next front e mark text i h = rw (add-one, drop-cons text i 0) refl

cut_true : (front : List ℕ) (e : Bool) (mark c : ℕ) (cs : List ℕ) → is_bare mark (c, e) ≡ true →
    front ∷ cut_from [] (is_bare 92 (c, e)) mark cs ≡ cut_from front e mark (c ∷ cs)
cut_true front e mark c cs b = rw b refl

cut_false : (front : List ℕ) (e : Bool) (mark c : ℕ) (cs : List ℕ) → is_bare mark (c, e) ≡ false →
    cut_from (front ++ c ∷ []) (is_bare 92 (c, e)) mark cs ≡ cut_from front e mark (c ∷ cs)
cut_false front e mark c cs b = rw b refl

-- one more octet, which ends a part
pub ends_part : (done more : List (List ℕ)) (front empty : List ℕ) (e next : Bool) (mark : ℕ) (text : List ℕ) (i : ℕ)
    (whole : List (List ℕ)) →
    i < length text → more ≡ done ++ front ∷ [] → empty ≡ [] → next ≡ is_bare 92 (get_or text i 0, e) →
    is_bare mark (get_or text i 0, e) ≡ true →
    done ++ cut_from front e mark (drop i text) ≡ whole → more ++ cut_from empty next mark (drop (i + 1) text) ≡ whole
ends_part done more front empty e next mark text i whole h m n k b w =
    rw (m, n, k) (append_assoc done (front ∷ []) _ ∙ ap (λ x. done ++ x) (cut_true front e mark (get_or text i 0)
    (drop (i + 1) text) b ∙ sym (cut_next front e mark text i h)) ∙ w)

-- one more octet of a part
pub goes_on : (done more : List (List ℕ)) (front longer : List ℕ) (e next : Bool) (mark : ℕ) (text : List ℕ) (i : ℕ)
    (whole : List (List ℕ)) →
    i < length text → more ≡ done → longer ≡ front ++ get_or text i 0 ∷ [] → next ≡ is_bare 92 (get_or text i 0, e) →
    is_bare mark (get_or text i 0, e) ≡ false →
    done ++ cut_from front e mark (drop i text) ≡ whole → more ++ cut_from longer next mark (drop (i + 1) text) ≡ whole
goes_on done more front longer e next mark text i whole h m n k b w =
    rw (m, n, k) (ap (λ x. done ++ x) (cut_false front e mark (get_or text i 0) (drop (i + 1) text) b
    ∙ sym (cut_next front e mark text i h)) ∙ w)

-- the end of the last part
pub ends_all : (done more : List (List ℕ)) (text : List ℕ) (start i : ℕ) (e : Bool) (mark : ℕ) (whole : List (List ℕ)) →
    length text ≤ i → i ≤ length text → more ≡ done ++ slice_range text start (length text) ∷ [] →
    done ++ cut_from (slice_range text start i) e mark (drop i text) ≡ whole → more ≡ whole
ends_all done more text start i e mark whole a b m w =
    let n : length text ≡ i = omega arith in
    m ∙ ap (λ k. done ++ slice_range text start k ∷ []) n
    ∙ ap (λ x. done ++ cut_from (slice_range text start i) e mark x) (sym (drop_all i text a)) ∙ w

-- a range of octets, and the one behind it
pub longer_range : (text : List ℕ) (start i : ℕ) → start ≤ i → i < length text →
    slice_range text start (i + 1) ≡ slice_range text start i ++ get_or text i 0 ∷ []
longer_range text start i s h =
    let n : i + 1 - start ≡ (i - start) + 1 = omega arith in
    let long : i - start < length (drop start text) = simp length-drop (omega arith) in
    let at : start + (i - start) ≡ i = omega arith in
    rw n (take_more (drop start text) (i - start) 0 long ∙ ap (λ x. take (i - start) (drop start text) ++ x ∷ [])
    (get_or-drop start text (i - start) 0 ∙ ap (λ k. get_or text k 0) at))

pub empty_range : (text : List ℕ) (i : ℕ) → slice_range text i i ≡ []
empty_range text i = let n : i - i ≡ 0 = omega arith in rw n refl
