-- UTF-8 keeps the order of code points.
use Rattle.std.proofs.Common.{ℕ, ◌+◌, ◌/◌, ◌%◌, ◌<◌, ◌≤◌, List, [], ◌∷◌, ◌++◌, Bool, true, false, nat_lt, ◌≡◌, refl, ap, ap₂, sym, subst, ◌∙◌, append_assoc, encode_utf8_all, arith}
use Rattle.std.proofs.lemmas.Bool.{ltb-true}
use Rattle.std.proofs.lemmas.Bool.Decides.{nat_tests}
use lib.Utf8.{encode}
use Rattle.ldap_syntax.specs.Meaning.{is_before}
use Rattle.ldap_syntax.proofs.Digits.{Three, three_less, three_same, three_more, three, head_less, not_both_before}

-- rows of octets made of a number, in order where the numbers are, whatever follows
pub record Rises (row : ℕ → List ℕ) : Type 0 where
  pub at : (x y : ℕ) (xs ys : List ℕ) → x < y → is_before (row x ++ xs) (row y ++ ys) ≡ true

pub prefix_same : (p xs ys : List ℕ) → is_before (p ++ xs) (p ++ ys) ≡ is_before xs ys
prefix_same [] xs ys = refl
prefix_same (x ∷ p) xs ys = same_head x (p ++ xs) (p ++ ys) ∙ prefix_same p xs ys where
  same_head : (x : ℕ) (xs ys : List ℕ) → is_before (x ∷ xs) (x ∷ ys) ≡ is_before xs ys
  same_head x xs ys = grind (arith, nat_tests)

-- the first octet, and one more octet with the lowest six bits
abbrev pub lead : ℕ → ℕ → List ℕ
lead h x = (h + x) ∷ []

abbrev pub further : (ℕ → List ℕ) → ℕ → List ℕ
further row x = row (x / 64) ++ (128 + x % 64) ∷ []

lead_rises : (h : ℕ) → Rises (lead h)
lead_rises h = record { at = λ x y xs ys l. head_less (h + x) (h + y) xs ys (omega arith) }

further_rises : (row : ℕ → List ℕ) → Rises row → Rises (further row)
further_rises row r = record { at = λ x y xs ys l. by_high row r x y xs ys l (three (x / 64) (y / 64)) } where
  by_high : (row : ℕ → List ℕ) → Rises row → (x y : ℕ) (xs ys : List ℕ) → x < y → Three (x / 64) (y / 64) →
      is_before (further row x ++ xs) (further row y ++ ys) ≡ true
  by_high row r x y xs ys l (three_less h) =
      ap₂ is_before (append_assoc (row (x / 64)) ((128 + x % 64) ∷ []) xs)
      (append_assoc (row (y / 64)) ((128 + y % 64) ∷ []) ys) ∙ r.at (x / 64) (y / 64) ((128 + x % 64) ∷ xs)
      ((128 + y % 64) ∷ ys) h
  by_high row r x y xs ys l (three_same e) =
      ap₂ is_before (append_assoc (row (x / 64)) ((128 + x % 64) ∷ []) xs)
      (append_assoc (row (y / 64)) ((128 + y % 64) ∷ []) ys ∙ ap (λ (n : ℕ). row n ++ (128 + y % 64) ∷ ys) (sym e))
      ∙ prefix_same (row (x / 64)) ((128 + x % 64) ∷ xs) ((128 + y % 64) ∷ ys)
      ∙ head_less (128 + x % 64) (128 + y % 64) xs ys (omega arith)
  by_high row r x y xs ys l (three_more h) = absurd (omega arith)

abbrev pub two : ℕ → List ℕ
two = further (lead 192)

abbrev pub three_of : ℕ → List ℕ
three_of = further (further (lead 224))

abbrev pub four : ℕ → List ℕ
four = further (further (further (lead 240)))

-- the octets of a character, by their count
pub data Spelled (c : ℕ) : Type 0 where
  in_one : c < 128 → encode c ≡ c ∷ [] → Spelled c
  in_two : 128 ≤ c → c < 2048 → encode c ≡ two c → Spelled c
  in_three : 2048 ≤ c → c < 65536 → encode c ≡ three_of c → Spelled c
  in_four : 65536 ≤ c → encode c ≡ four c → Spelled c

spelled_by : (c : ℕ) (x y z : Bool) → nat_lt c 128 ≡ x → nat_lt c 2048 ≡ y → nat_lt c 65536 ≡ z → Spelled c
unfolding encode
spelled_by c true y z e f g = in_one (ltb-true c 128 e) (rw e refl)
spelled_by c false true z e f g = in_two (grind (arith, nat_tests, e)) (ltb-true c 2048 f) (rw (e, f) refl)
spelled_by c false false true e f g =
    let q : c / 4096 ≡ c / 64 / 64 = omega arith in
    in_three (grind (arith, nat_tests, f)) (ltb-true c 65536 g) (rw (e, f, g, q) refl)
spelled_by c false false false e f g =
    let q : c / 4096 ≡ c / 64 / 64 = omega arith in
    let r : c / 262144 ≡ c / 64 / 64 / 64 = omega arith in
    in_four (grind (arith, nat_tests, g)) (rw (e, f, g, q, r) refl)

pub spelled : (c : ℕ) → Spelled c
spelled c = spelled_by c (nat_lt c 128) (nat_lt c 2048) (nat_lt c 65536) refl refl refl

two_rises : Rises two
two_rises = further_rises (lead 192) (lead_rises 192)

three_rises : Rises three_of
three_rises = further_rises (further (lead 224)) (further_rises (lead 224) (lead_rises 224))

four_rises : Rises four
four_rises = further_rises (further (further (lead 240))) (further_rises (further (lead 240))
    (further_rises (lead 240) (lead_rises 240)))

-- the greater of two characters has the greater octets
greater : (x y : ℕ) (xs ys : List ℕ) → x < y → Spelled x → Spelled y → is_before (encode x ++ xs) (encode y ++ ys) ≡
    true
greater x y xs ys l (in_one a e) (in_one b f) = rw (e, f) (head_less x y xs ys l)
greater x y xs ys l (in_one a e) (in_two b c f) = rw (e, f) (head_less x (192 + y / 64) xs ((128 + y % 64) ∷ ys)
    (omega arith))
greater x y xs ys l (in_one a e) (in_three b c f) = rw (e, f) (head_less x (224 + y / 64 / 64) xs
    ((128 + y / 64 % 64) ∷ (128 + y % 64) ∷ ys) (omega arith))
greater x y xs ys l (in_one a e) (in_four b f) = rw (e, f) (head_less x (240 + y / 64 / 64 / 64) xs
    ((128 + y / 64 / 64 % 64) ∷ (128 + y / 64 % 64) ∷ (128 + y % 64) ∷ ys) (omega arith))
greater x y xs ys l (in_two a b e) (in_two c d f) = rw (e, f) (two_rises.at x y xs ys l)
greater x y xs ys l (in_two a b e) (in_three c d f) = rw (e, f) (head_less (192 + x / 64) (224 + y / 64 / 64)
    ((128 + x % 64) ∷ xs) ((128 + y / 64 % 64) ∷ (128 + y % 64) ∷ ys) (omega arith))
greater x y xs ys l (in_two a b e) (in_four c f) = rw (e, f) (head_less (192 + x / 64) (240 + y / 64 / 64 / 64)
    ((128 + x % 64) ∷ xs) ((128 + y / 64 / 64 % 64) ∷ (128 + y / 64 % 64) ∷ (128 + y % 64) ∷ ys) (omega arith))
greater x y xs ys l (in_three a b e) (in_three c d f) = rw (e, f) (three_rises.at x y xs ys l)
greater x y xs ys l (in_three a b e) (in_four c f) = rw (e, f) (head_less (224 + x / 64 / 64) (240 + y / 64 / 64 / 64)
    ((128 + x / 64 % 64) ∷ (128 + x % 64) ∷ xs) ((128 + y / 64 / 64 % 64) ∷ (128 + y / 64 % 64) ∷ (128 + y % 64) ∷ ys)
    (omega arith))
greater x y xs ys l (in_four a e) (in_four c f) = rw (e, f) (four_rises.at x y xs ys l)
greater x y xs ys l (in_two a b e) (in_one c f) = absurd (omega arith)
greater x y xs ys l (in_three a b e) (in_one c f) = absurd (omega arith)
greater x y xs ys l (in_three a b e) (in_two c d f) = absurd (omega arith)
greater x y xs ys l (in_four a e) (in_one c f) = absurd (omega arith)
greater x y xs ys l (in_four a e) (in_two c d f) = absurd (omega arith)
greater x y xs ys l (in_four a e) (in_three c d f) = absurd (omega arith)

pub greater_first : (x y : ℕ) (xs ys : List ℕ) → x < y → is_before (encode x ++ xs) (encode y ++ ys) ≡ true
greater_first x y xs ys l = greater x y xs ys l (spelled x) (spelled y)

some_before : (y : ℕ) (ys : List ℕ) → Spelled y → is_before [] (encode y ++ ys) ≡ true
some_before y ys (in_one a e) = rw e refl
some_before y ys (in_two a b e) = rw e refl
some_before y ys (in_three a b e) = rw e refl
some_before y ys (in_four a e) = rw e refl

not_true : (b : Bool) → (b ≡ true → ⊥) → b ≡ false
not_true true h = absurd (h refl)
not_true false h = refl

by_first : (x y : ℕ) (xs ys : List ℕ) → Three x y → is_before (encode_utf8_all xs) (encode_utf8_all ys) ≡ is_before xs
    ys → is_before (encode_utf8_all (x ∷ xs)) (encode_utf8_all (y ∷ ys)) ≡ is_before (x ∷ xs) (y ∷ ys)
by_first x y xs ys (three_less l) rest = greater_first x y _ _ l ∙ sym (head_less x y xs ys l)
by_first x y xs ys (three_same e) rest =
    subst (λ (n : ℕ). is_before (encode_utf8_all (x ∷ xs)) (encode_utf8_all (n ∷ ys)) ≡ is_before (x ∷ xs) (n ∷ ys)) e
    (prefix_same (encode x) (encode_utf8_all xs) (encode_utf8_all ys) ∙ rest ∙ sym (prefix_same (x ∷ []) xs ys))
by_first x y xs ys (three_more l) rest =
    not_true (is_before (encode_utf8_all (x ∷ xs)) (encode_utf8_all (y ∷ ys)))
    (λ h. not_both_before (encode_utf8_all (x ∷ xs)) (encode_utf8_all (y ∷ ys)) h
    (greater_first y x (encode_utf8_all ys) (encode_utf8_all xs) l))
    ∙ sym (not_true (is_before (x ∷ xs) (y ∷ ys)) (λ h. not_both_before (x ∷ xs) (y ∷ ys) h (head_less y x ys xs l)))

-- octets of texts are in order where the texts are
pub octets_in_order : (xs ys : List ℕ) → is_before (encode_utf8_all xs) (encode_utf8_all ys) ≡ is_before xs ys
octets_in_order xs [] = refl
octets_in_order [] (y ∷ ys) = some_before y (encode_utf8_all ys) (spelled y)
octets_in_order (x ∷ xs) (y ∷ ys) = by_first x y xs ys (three x y) (octets_in_order xs ys)
