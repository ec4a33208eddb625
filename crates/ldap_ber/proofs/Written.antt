-- What is written is an element, in its shortest form.
use Rattle.std.proofs.Common.{◌≡◌, ℕ, ◌/◌, ◌%◌, ◌<◌, ◌≤◌, ltb, List, [], ◌∷◌, ◌++◌, length, min, true, refl, ap, ◌∙◌, ◌⊎◌, inl, inr, arith, ◌+◌}
use Rattle.std.proofs.lemmas.Bool.{cond_both, ltb-true, ltb-false}
use Rattle.std.proofs.lemmas.List.{length-append}
use Rattle.ldap_ber.specs.Element.{IsLength, IsElement, length_octets, element_bytes}

-- the lengths in order
pub data Size (n : ℕ) : List ℕ → Type 0 where
  one : n < 128 → Size n (n ∷ [])
  two : 128 ≤ n → n < 256 → Size n (129 ∷ n ∷ [])
  three : 256 ≤ n → n < 65536 → Size n (130 ∷ n / 256 ∷ n % 256 ∷ [])
  four : 65536 ≤ n → n < 16777216 → Size n (131 ∷ n / 65536 ∷ n / 256 % 256 ∷ n % 256 ∷ [])
  five : 16777216 ≤ n → n < 4294967296 → Size n (132 ∷ n / 16777216 ∷ n / 65536 % 256 ∷ n / 256 % 256 ∷ n % 256 ∷ [])

size : (n : ℕ) → n < 4294967296 → Size n (length_octets n)
size n small =
    cond_both (ltb n 128) _ _ (Size n) (λ e. one (ltb-true _ _ e)) (λ e₁.
    cond_both (ltb n 256) _ _ (Size n) (λ e. two (ltb-false n 128 e₁) (ltb-true _ _ e)) (λ e₂.
    cond_both (ltb n 65536) _ _ (Size n) (λ e. three (ltb-false n 256 e₂) (ltb-true _ _ e)) (λ e₃.
    cond_both (ltb n 16777216) _ _ (Size n) (λ e. four (ltb-false n 65536 e₃) (ltb-true _ _ e))
    (λ e₄. five (ltb-false n 16777216 e₄) small))))

is_length : (n : ℕ) (s : List ℕ) → Size n s → IsLength s n
is_length n s (one lt) = (lt, refl)
is_length n s (two ge lt) = (omega arith, omega arith, (lt, tt), omega arith)
is_length n s (three ge lt) = (omega arith, omega arith, (omega arith, (omega arith, tt)), omega arith)
is_length n s (four ge lt) = (omega arith, omega arith, (omega arith, (omega arith, (omega arith, tt))), omega arith)
is_length n s (five ge lt) =
    (omega arith, omega arith, (omega arith, (omega arith, (omega arith, (omega arith, tt)))), omega arith)

pub written : (first : ℕ) (content : List ℕ) → first % 32 < 31 → length content < 4294967296 →
    IsElement (element_bytes first content) first content
written first content low small = record {
  low_tag = low;
  len_octets = length_octets (length content);
  len =
      is_length (length content) (length_octets (length content)) (size (length content) small);
  whole = refl;
}

-- a spelling of one length is the only one that is as short
same_two : (n a b : ℕ) → IsLength (a ∷ b ∷ []) n → a ∷ b ∷ [] ≡ 129 ∷ n ∷ []
same_two n a b is = let p : a ≡ 129 = is.0 in let q : b ≡ n = omega (arith, is.3) in cc

same_three : (n a b c : ℕ) → IsLength (a ∷ b ∷ c ∷ []) n → a ∷ b ∷ c ∷ [] ≡ 130 ∷ n / 256 ∷ n % 256 ∷ []
same_three n a b c is =
    let p : a ≡ 130 = is.0 in
    let c-small : c < 256 = is.2.1.0 in
    let q : b ≡ n / 256 = omega (arith, is.3) in
    let r : c ≡ n % 256 = omega (arith, is.3) in
    cc

same_four : (n a b c d : ℕ) → IsLength (a ∷ b ∷ c ∷ d ∷ []) n → a ∷ b ∷ c ∷ d ∷ [] ≡ 131 ∷ n / 65536 ∷ n / 256 %
    256 ∷ n % 256 ∷ []
same_four n a b c d is =
    let p : a ≡ 131 = is.0 in
    let c-small : c < 256 = is.2.1.0 in
    let d-small : d < 256 = is.2.1.1.0 in
    let q : b ≡ n / 65536 = omega (arith, is.3) in
    let r : c ≡ n / 256 % 256 = omega (arith, is.3) in
    let s : d ≡ n % 256 = omega (arith, is.3) in
    cc

same_five : (n a b c d e : ℕ) → IsLength (a ∷ b ∷ c ∷ d ∷ e ∷ []) n → a ∷ b ∷ c ∷ d ∷ e ∷ [] ≡ 132 ∷ n / 16777216 ∷ n
    / 65536 % 256 ∷ n / 256 % 256 ∷ n % 256 ∷ []
same_five n a b c d e is =
    let p : a ≡ 132 = is.0 in
    let c-small : c < 256 = is.2.1.0 in
    let d-small : d < 256 = is.2.1.1.0 in
    let e-small : e < 256 = is.2.1.1.1.0 in
    let q : b ≡ n / 16777216 = omega (arith, is.3) in
    let r : c ≡ n / 65536 % 256 = omega (arith, is.3) in
    let s : d ≡ n / 256 % 256 = omega (arith, is.3) in
    let t : e ≡ n % 256 = omega (arith, is.3) in
    cc

shorter : (n : ℕ) (s other : List ℕ) → Size n s → IsLength other n → (other ≡ s) ⊎ (length s < length other)
shorter n s [] size is = absurd is
shorter n s (a ∷ []) (one lt) is = inl (let e : a ≡ n = omega (arith, is.1) in cc)
shorter n s (a ∷ []) (two ge lt) is = absurd (omega (arith, is.0, is.1))
shorter n s (a ∷ []) (three ge lt) is = absurd (omega (arith, is.0, is.1))
shorter n s (a ∷ []) (four ge lt) is = absurd (omega (arith, is.0, is.1))
shorter n s (a ∷ []) (five ge lt) is = absurd (omega (arith, is.0, is.1))
shorter n s (a ∷ b ∷ bs) (one lt) is = inr (omega arith)
shorter n s (a ∷ b ∷ []) (two ge lt) is = inl (same_two n a b is)
shorter n s (a ∷ b ∷ c ∷ bs) (two ge lt) is = inr (omega arith)
shorter n s (a ∷ b ∷ []) (three ge lt) is = absurd (omega (arith, is.2.0, is.3))
shorter n s (a ∷ b ∷ c ∷ []) (three ge lt) is = inl (same_three n a b c is)
shorter n s (a ∷ b ∷ c ∷ d ∷ bs) (three ge lt) is = inr (omega arith)
shorter n s (a ∷ b ∷ []) (four ge lt) is = absurd (omega (arith, is.2.0, is.3))
shorter n s (a ∷ b ∷ c ∷ []) (four ge lt) is = absurd (omega (arith, is.2.0, is.2.1.0, is.3))
shorter n s (a ∷ b ∷ c ∷ d ∷ []) (four ge lt) is = inl (same_four n a b c d is)
shorter n s (a ∷ b ∷ c ∷ d ∷ e ∷ bs) (four ge lt) is = inr (omega arith)
shorter n s (a ∷ b ∷ []) (five ge lt) is = absurd (omega (arith, is.2.0, is.3))
shorter n s (a ∷ b ∷ c ∷ []) (five ge lt) is = absurd (omega (arith, is.2.0, is.2.1.0, is.3))
shorter n s (a ∷ b ∷ c ∷ d ∷ []) (five ge lt) is = absurd (omega (arith, is.2.0, is.2.1.0, is.2.1.1.0, is.3))
shorter n s (a ∷ b ∷ c ∷ d ∷ e ∷ []) (five ge lt) is = inl (same_five n a b c d e is)
shorter n s (a ∷ b ∷ c ∷ d ∷ e ∷ f ∷ bs) (five ge lt) is = inr (omega arith)

pub shortest : (first : ℕ) (content other : List ℕ) → length content < 4294967296 → IsElement other first content →
    (other ≡ element_bytes first content) ⊎ (length (element_bytes first content) < length other)
shortest first content other small is =
    let n = length content in
    elim (shorter n (length_octets n) is.len_octets (size n small) is.len) [
      | inl same ↦ inl (is.whole ∙ ap (λ (xs : List ℕ). first ∷ xs ++ content) same)
      | inr lt ↦ inr (omega (
        arith,
        lt,
        ap length is.whole,
        length-append is.len_octets content,
        length-append (length_octets n) content,
      ))
    ]

-- ---- how long it is

-- an element whose content is this long
long_as : (first content head : ℕ) (octets : List ℕ) → content ≡ length octets →
    head ≡ 1 + length (length_octets content) → content + head ≡ length (element_bytes first octets)
long_as first content head octets same is =
    let there : head ≡ 1 + length (length_octets (length octets)) = is ∙ ap (λ (n : ℕ). 1 + length (length_octets n))
    same in
    omega (arith, same, there, length-append (length_octets (length octets)) octets)

pub element_measure : (first content head whole : ℕ) (octets : List ℕ) → min content 4294967296 ≡ min (length octets)
    4294967296 → head ≡ 1 + length (length_octets content)
    → whole ≡ min (content + head) 4294967296 → whole ≡ min (length (element_bytes first octets)) 4294967296
element_measure first content head whole octets same head_is is =
    cond_both (ltb content 4294967296) true true (λ _. whole ≡ min (length (element_bytes first octets)) 4294967296)
    (λ e. let exact : content ≡ length octets = omega (arith, same, ltb-true content 4294967296 e) in
    is ∙ ap (λ (n : ℕ). min n 4294967296) (long_as first content head octets exact head_is))
    (λ e. omega (arith, is, same, ltb-false content 4294967296 e, length-append (length_octets (length octets)) octets))
