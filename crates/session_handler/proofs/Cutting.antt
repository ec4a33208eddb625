-- Rows cut from octets. Lengths and octets come in; what they are together, and what one row more makes of them, goes
-- out.
use Rattle.std.proofs.Common.{◌≡◌, ◌+◌, ◌≤◌, ℕ, List, [], ◌∷◌, ◌++◌, length, map, take, drop, ap, sym, ◌∙◌, refl, arith}
use Rattle.std.proofs.lemmas.List.{length-append, length-take, length-drop, take-append-drop, take-append-le, drop-append-le, take_all}
use Rattle.session_handler.specs.Rows.{joined, cut, total}

first_fits : (n : ℕ) (ns octets : List ℕ) → n + total ns ≡ length octets → n ≤ length octets
first_fits n ns octets is = omega (arith, is)

others_fit : (n : ℕ) (ns octets : List ℕ) → n + total ns ≡ length octets → total ns ≡ length (drop n octets)
others_fit n ns octets is = omega (arith, is, length-drop n octets)

no_octets : (octets : List ℕ) → 0 ≡ length octets → [] ≡ octets
no_octets [] is = refl
no_octets (o ∷ os) is = absurd (omega (arith, is))

-- the rows are all octets
pub joined_cut : (ns octets : List ℕ) → total ns ≡ length octets → joined (cut ns octets) ≡ octets
joined_cut [] octets is = no_octets octets is
joined_cut (n ∷ ns) octets is = ap (λ (l : List ℕ). take n octets ++ l) (joined_cut ns (drop n octets)
    (others_fit n ns octets is)) ∙ take-append-drop n octets

-- each row has its length
pub lengths_cut : (ns octets : List ℕ) → total ns ≡ length octets → map length (cut ns octets) ≡ ns
lengths_cut [] octets is = refl
lengths_cut (n ∷ ns) octets is =
    ap (λ (m : ℕ). m ∷ map length (cut ns (drop n octets))) (length-take n octets ∙ omega (arith, is))
    ∙ ap (λ (l : List ℕ). n ∷ l) (lengths_cut ns (drop n octets) (others_fit n ns octets is))

-- one row more
pub cut_more : (ns octets row : List ℕ) (n : ℕ) → total ns ≡ length octets → n ≡ length row →
    cut (ns ++ n ∷ []) (octets ++ row) ≡ cut ns octets ++ row ∷ []
cut_more [] octets row n is same =
    ap (λ (l : List ℕ). take n (l ++ row) ∷ []) (sym (no_octets octets is)) ∙ ap (λ (l : List ℕ). l ∷ [])
    (take_all n row (omega (arith, same)))
cut_more (m ∷ ns) octets row n is same =
    let fits : m ≤ length octets = first_fits m ns octets is in
    ap (λ (l : List ℕ). l ∷ cut (ns ++ n ∷ []) (drop m (octets ++ row))) (take-append-le m octets row fits)
    ∙ ap (λ (l : List ℕ). take m octets ∷ cut (ns ++ n ∷ []) l) (drop-append-le m octets row fits)
    ∙ ap (λ (l : List (List ℕ)). take m octets ∷ l) (cut_more ns (drop m octets) row n (others_fit m ns octets is) same)

total_behind : (ns : List ℕ) (n : ℕ) → total (ns ++ n ∷ []) ≡ total ns + n
total_behind [] n = omega arith
total_behind (m ∷ ns) n = omega (arith, total_behind ns n)

pub total_more : (ns octets row : List ℕ) (n : ℕ) → total ns ≡ length octets → n ≡ length row → total (ns ++ n ∷ []) ≡
    length (octets ++ row)
total_more ns octets row n is same = omega (arith, is, same, total_behind ns n, length-append octets row)
