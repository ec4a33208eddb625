-- The octets that are written for an integer are its content.
use Rattle.std.proofs.Common.{◌≡◌, ℕ, zero, suc, ◌+◌, ◌*◌, ◌-◌, ◌/◌, ◌%◌, ◌^◌, ◌<◌, ◌≤◌, Bool, true, false, ltb, List, [], ◌∷◌, ◌++◌, length, map, refl, sym, ap, subst, ◌∙◌, ◌⊎◌, inl, inr, append_assoc, arith, pow-add}
use Rattle.std.specs.Prelude.{ℤ, pos, negsuc}
use Rattle.std.specs.List.{fold}
use Rattle.std.proofs.Math.Nat.{mul-le-mul_right}
use Rattle.std.proofs.lemmas.Bool.{cond_both, ltb-true, ltb-false, lt-ltb}
use Rattle.std.proofs.lemmas.List.Sums.{fold_push}
use Rattle.std.proofs.lemmas.List.{length-append, length-map, map_push}
use Rattle.ldap_ber.specs.Number.{number}
use Rattle.ldap_ber.specs.Element.{AreOctets, element_bytes}
use Rattle.ldap_ber.specs.Values.{IsMinimal, IsInteger, IsLong, digits, width, signed, is_below, bits_of, integer_octets}
use Rattle.ldap_ber.proofs.Numbers.{fold_below}

octets_push : (bs : List ℕ) (b : ℕ) → AreOctets bs → b < 256 → AreOctets (bs ++ b ∷ [])
octets_push [] b h lt = (lt, tt)
octets_push (a ∷ bs) b h lt = (h.0, octets_push bs b h.1 lt)

are_octets : (k n : ℕ) → AreOctets (digits k n)
are_octets zero n = tt
are_octets (suc k) n = octets_push (digits k (n / 256)) (n % 256) (are_octets k (n / 256)) (omega arith)

pub length-digits : (k n : ℕ) → length (digits k n) ≡ k
length-digits zero n = refl
length-digits (suc k) n = omega (arith, length-append (digits k (n / 256)) (n % 256 ∷ []), length-digits k (n / 256))

number-digits : (k n : ℕ) → n < 2 ^ (8 * k) → number (digits k n) ≡ n
number-digits zero n lt = omega arith
number-digits (suc k) n lt =
    let e : 8 * suc k ≡ 8 * k + 8 = omega arith in
    let more : n < 2 ^ (8 * k) * 256 = subst (λ (m : ℕ). n < m) (pow-add 2 (8 * k) 8) (subst (λ (m : ℕ). n < 2 ^ m) e
    lt) in
    let small : n / 256 < 2 ^ (8 * k) = omega arith in
    fold_push (λ n b. n * 256 + b) 0 (digits k (n / 256)) (n % 256) ∙ omega (arith, number-digits k (n / 256) small)

turn_back : (bs : List ℕ) → AreOctets bs → map (λ b. 255 - b) (map (λ b. 255 - b) bs) ≡ bs
turn_back [] h = refl
turn_back (b ∷ bs) h = let octet : b < 256 = h.0 in let e : 255 - (255 - b) ≡ b = omega arith in let t = turn_back bs
    h.1 in cc

-- how many octets the bits after a sign take
pub record IsWidth (n k : ℕ) : Type 0 where
  pub some : 1 ≤ k
  pub most : k ≤ 8
  pub upper : 2 * n < 2 ^ (8 * k)
  pub lower : (k ≡ 1) ⊎ (2 ^ (8 * (k - 1)) ≤ 2 * n)

width_is : (n : ℕ) → n < 2 ^ 63 → IsWidth n (width n)
width_is n small =
    cond_both (ltb n (2 ^ 7)) _ _ (IsWidth n) (λ e. record {
      some = omega arith;
      most = omega arith;
      upper =
          omega (arith, ltb-true _ _ e);
      lower = inl refl;
    }) (λ e₁.
    cond_both (ltb n (2 ^ 15)) _ _ (IsWidth n) (λ e. record {
      some = omega arith;
      most = omega arith;
      upper =
          omega (arith, ltb-true _ _ e);
      lower = inr (omega (arith, ltb-false _ _ e₁));
    }) (λ e₂.
    cond_both (ltb n (2 ^ 23)) _ _ (IsWidth n) (λ e. record {
      some = omega arith;
      most = omega arith;
      upper =
          omega (arith, ltb-true _ _ e);
      lower = inr (omega (arith, ltb-false _ _ e₂));
    }) (λ e₃.
    cond_both (ltb n (2 ^ 31)) _ _ (IsWidth n) (λ e. record {
      some = omega arith;
      most = omega arith;
      upper =
          omega (arith, ltb-true _ _ e);
      lower = inr (omega (arith, ltb-false _ _ e₃));
    }) (λ e₄.
    cond_both (ltb n (2 ^ 39)) _ _ (IsWidth n) (λ e. record {
      some = omega arith;
      most = omega arith;
      upper =
          omega (arith, ltb-true _ _ e);
      lower = inr (omega (arith, ltb-false _ _ e₄));
    }) (λ e₅.
    cond_both (ltb n (2 ^ 47)) _ _ (IsWidth n) (λ e. record {
      some = omega arith;
      most = omega arith;
      upper =
          omega (arith, ltb-true _ _ e);
      lower = inr (omega (arith, ltb-false _ _ e₅));
    }) (λ e₆.
    cond_both (ltb n (2 ^ 55)) _ _ (IsWidth n) (λ e. record {
      some = omega arith;
      most = omega arith;
      upper =
          omega (arith, ltb-true _ _ e);
      lower = inr (omega (arith, ltb-false _ _ e₆));
    }) (λ e₇.
    record {
      some = omega arith;
      most = omega arith;
      upper = omega arith;
      lower =
          inr (omega (arith, ltb-false _ _ e₇));
    })))))))

above : (n b p m : ℕ) → (n * 256 + b) * p ≤ m → n * (256 * p) ≤ m
above n b p m h = omega arith

-- the number is no smaller than its front
fold_above : (n : ℕ) (bs : List ℕ) → n * 2 ^ (8 * length bs) ≤ fold (λ n b. n * 256 + b) n bs
fold_above n [] = omega arith
fold_above n (b ∷ bs) =
    let e : 8 * length (b ∷ bs) ≡ 8 + 8 * length bs = omega arith in
    rw (e, pow-add) (above n b (2 ^ (8 * length bs)) (fold (λ n b. n * 256 + b) (n * 256 + b) bs)
    (fold_above (n * 256 + b) bs))

too_high : (a p n : ℕ) → 2 * n < 256 * p → a * p ≤ n → a < 128
too_high a p n upper most =
    cond_both (ltb a 128) true true (λ _. a < 128) (λ e. ltb-true _ _ e) (λ e. let high : 128 ≤ a = ltb-false a 128 e
    in absurd (omega (arith, mul-le-mul_right p high)))

-- the first bit of octets that spell bits after a sign
low_first : (a : ℕ) (bs : List ℕ) (n k : ℕ) → number (a ∷ bs) ≡ n → IsWidth n k → length (a ∷ bs) ≡ k → a < 128
low_first a bs n k is w len =
    let e : 8 * k ≡ 8 + 8 * length bs = omega arith in
    let upper : 2 * n < 256 * 2 ^ (8 * length bs) = subst (λ (m : ℕ). 2 * n < m) (pow-add 2 8 (8 * length bs))
    (subst (λ (m : ℕ). 2 * n < 2 ^ m) e w.upper) in
    let most : a * 2 ^ (8 * length bs) ≤ n = omega (arith, fold_above (0 * 256 + a) bs, is) in
    too_high a (2 ^ (8 * length bs)) n upper most

-- no octet in front could be left out
minimal : (a : ℕ) (bs : List ℕ) (n k : ℕ) → AreOctets bs → number (a ∷ bs) ≡ n → IsWidth n k → length (a ∷ bs) ≡ k →
    a < 128 → IsMinimal (a ∷ bs)
minimal a [] n k octets is w len low = tt
minimal a (b ∷ bs) n k octets is w len low = (
  λ h. elim w.lower [
    | inl one ↦ omega arith
    | inr enough ↦
        let first : 0 * 256 + b < 2 ^ 7 = omega (arith, h.1) in
        let zero_first : (0 * 256 + a) * 256 + b ≡ 0 * 256 + b = omega (arith, h.0) in
        let below : n < 2 ^ (7 + 8 * length bs) = subst (λ (m : ℕ). m < 2 ^ (7 + 8 * length bs))
        (ap (λ (m : ℕ). fold (λ n b. n * 256 + b) m bs) (sym zero_first) ∙ is) (fold_below (0 * 256 + b) 7 bs
        first octets.1) in
        let e₁ : 2 ^ (7 + 8 * length bs) ≡ 128 * 2 ^ (8 * length bs) = pow-add 2 7 (8 * length bs) in
        let e₂ : 8 * (k - 1) ≡ 8 + 8 * length bs = omega arith in
        let e₃ : 2 ^ (8 * (k - 1)) ≡ 256 * 2 ^ (8 * length bs) = ap (λ (m : ℕ). 2 ^ m) e₂
        ∙ pow-add 2 8 (8 * length bs) in
        omega (arith, below, e₁, e₃, enough)
  ],
  λ h. omega (arith, h.0),
)

-- ---- both signs

is_positive : (bs : List ℕ) (n k : ℕ) → AreOctets bs → number bs ≡ n → IsWidth n k → length bs ≡ k →
    IsInteger bs (pos n)
is_positive [] n k octets is w len = absurd (omega (arith, w.some))
is_positive (a ∷ bs) n k octets is w len =
    let low = low_first a bs n k is w len in
    record {
      at_most_eight = omega (arith, w.most);
      minimal = minimal a bs n k octets.1 is w len low;
      is_value =
          (low, sym is);
    }

turned_minimal : (a : ℕ) (bs : List ℕ) → a < 128 → AreOctets bs → IsMinimal (a ∷ bs) →
    IsMinimal (map (λ b. 255 - b) (a ∷ bs))
turned_minimal a [] low octets h = tt
turned_minimal a (b ∷ bs) low octets h = (
  λ z. omega (arith, z.0),
  λ z. h.0 (omega (arith, z.0), omega (arith, z.1, octets.0)),
)

is_negative : (bs : List ℕ) (n k : ℕ) → AreOctets bs → number bs ≡ n → IsWidth n k → length bs ≡ k →
    IsInteger (map (λ b. 255 - b) bs) (negsuc n)
is_negative [] n k octets is w len = absurd (omega (arith, w.some))
is_negative (a ∷ bs) n k octets is w len =
    let low = low_first a bs n k is w len in
    let back = turn_back (a ∷ bs) octets in
    record {
      at_most_eight = simp length-map (omega (arith, w.most));
      minimal = turned_minimal a bs low octets.1 (minimal a bs n k octets.1 is w len low);
      is_value = (omega arith, sym is ∙ ap number (sym back));
    }

digits_spell : (k n : ℕ) → IsWidth n k → number (digits k n) ≡ n
digits_spell k n w = number-digits k n (omega (arith, w.upper))

pub is_content : (z : ℤ) → IsLong z → IsInteger (integer_octets z) z
is_content (pos n) small =
    let w = width_is n small in
    is_positive (digits (width n) n) n (width n) (are_octets (width n) n) (digits_spell (width n) n w) w
    (length-digits (width n) n)
is_content (negsuc n) small =
    let w = width_is n small in
    is_negative (digits (width n) n) n (width n) (are_octets (width n) n) (digits_spell (width n) n w) w
    (length-digits (width n) n)

-- ---- octet by octet

pub push_digit : (old mid new : List ℕ) (negative : Bool) (count bits : ℕ) → 0 < count → mid ≡ old ++ signed negative
    (digits (count - 1) (bits / 256))
    → new ≡ mid ++ signed negative (bits % 256 ∷ []) → new ≡ old ++ signed negative (digits count bits)
push_digit old mid new negative zero bits some so_far pushed = absurd (omega arith)
push_digit old mid new false (suc k) bits some so_far pushed =
    let e : suc k - 1 ≡ k = omega arith in
    let so_far' : mid ≡ old ++ digits k (bits / 256) = subst (λ (j : ℕ). mid ≡ old ++ digits j (bits / 256)) e so_far in
    pushed ∙ ap (λ (x : List ℕ). x ++ bits % 256 ∷ []) so_far' ∙ append_assoc old (digits k (bits / 256))
    (bits % 256 ∷ [])
push_digit old mid new true (suc k) bits some so_far pushed =
    let e : suc k - 1 ≡ k = omega arith in
    let so_far' : mid ≡ old ++ signed true (digits k (bits / 256)) = subst (λ (j : ℕ). mid ≡ old ++ signed true
    (digits j (bits / 256))) e so_far in
    pushed ∙ ap (λ (x : List ℕ). x ++ signed true (bits % 256 ∷ [])) so_far'
    ∙ append_assoc old (signed true (digits k (bits / 256))) (signed true (bits % 256 ∷ []))
    ∙ ap (λ (x : List ℕ). old ++ x) (sym (map_push (λ (b : ℕ). 255 - b) (digits k (bits / 256)) (bits % 256)))

length-signed : (negative : Bool) (bs : List ℕ) → length (signed negative bs) ≡ length bs
length-signed false bs = refl
length-signed true bs = simp length-map

width_short : (n : ℕ) → width n < 128
width_short n =
    cond_both (ltb n (2 ^ 7)) _ _ (λ k. k < 128) (λ e. omega arith) (λ e.
    cond_both (ltb n (2 ^ 15)) _ _ (λ k. k < 128) (λ e. omega arith) (λ e.
    cond_both (ltb n (2 ^ 23)) _ _ (λ k. k < 128) (λ e. omega arith) (λ e.
    cond_both (ltb n (2 ^ 31)) _ _ (λ k. k < 128) (λ e. omega arith) (λ e.
    cond_both (ltb n (2 ^ 39)) _ _ (λ k. k < 128) (λ e. omega arith) (λ e.
    cond_both (ltb n (2 ^ 47)) _ _ (λ k. k < 128) (λ e. omega arith) (λ e.
    cond_both (ltb n (2 ^ 55)) _ _ (λ k. k < 128) (λ e. omega arith) (λ e. omega arith)))))))

short_element : (first n : ℕ) (content : List ℕ) → length content ≡ n → n < 128 → element_bytes first content ≡
    first ∷ n ∷ content
short_element first n content len small =
    let test : ltb (length content) 128 ≡ true = lt-ltb (length content) 128 (omega (arith, len)) in
    rw test (ap (λ (k : ℕ). first ∷ k ∷ content) len)

pub puts : (old out : List ℕ) (first count : ℕ) (z : ℤ) → count ≡ width (bits_of z) →
    out ≡ ((old ++ first ∷ []) ++ count ∷ []) ++ signed (is_below z) (digits count (bits_of z)) →
    out ≡ old ++ element_bytes first (integer_octets z)
puts old out first count z is e =
    let n = width (bits_of z) in
    let content = integer_octets z in
    let len : length content ≡ n = length-signed (is_below z) (digits n (bits_of z)) ∙ length-digits n (bits_of z) in
    let same : out ≡ ((old ++ first ∷ []) ++ n ∷ []) ++ content =
    subst (λ (k : ℕ). out ≡ ((old ++ first ∷ []) ++ k ∷ []) ++ signed (is_below z) (digits k (bits_of z))) is
    e in
    same ∙ ap (λ (x : List ℕ). x ++ content) (append_assoc old (first ∷ []) (n ∷ []))
    ∙ append_assoc old (first ∷ n ∷ []) content
    ∙ ap (λ (x : List ℕ). old ++ x) (sym (short_element first n content len (width_short (bits_of z))))

pub puts_all : (old reserved one two out : List ℕ) (first count bits : ℕ) (negative : Bool) (z : ℤ) → reserved ≡ old →
    one ≡ reserved ++ first ∷ [] → two ≡ one ++ count ∷ [] → negative ≡ is_below z → bits ≡ bits_of z →
    count ≡ width bits
    → out ≡ two ++ signed negative (digits count bits) → out ≡ old ++ element_bytes first (integer_octets z)
puts_all old reserved one two out first count bits negative z e₀ e₁ e₂ sign same is e =
    let all : out ≡ ((old ++ first ∷ []) ++ count ∷ []) ++ signed (is_below z) (digits count (bits_of z)) = cc in
    let width_is : count ≡ width (bits_of z) = is ∙ ap width same in
    puts old out first count z width_is all

-- the element of an integer takes two octets more than its content
pub integer_measure : (first count bits : ℕ) (z : ℤ) → bits ≡ bits_of z → count ≡ width bits →
    count + 2 ≡ length (element_bytes first (integer_octets z))
integer_measure first count bits z same is =
    let n = width (bits_of z) in
    let content = integer_octets z in
    let len : length content ≡ n = length-signed (is_below z) (digits n (bits_of z)) ∙ length-digits n (bits_of z) in
    let count_is : count ≡ n = is ∙ ap width same in
    omega (arith, len, count_is, ap length (short_element first n content len (width_short (bits_of z))))
