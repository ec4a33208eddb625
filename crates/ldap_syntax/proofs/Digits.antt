-- Digits and the numbers that they write, compared.
use Rattle.std.proofs.Common.{ℕ, ◌+◌, ◌*◌, ◌-◌, ◌<◌, ◌≤◌, List, [], ◌∷◌, ◌++◌, Bool, true, false, ◌&&◌, ◌||◌, nat_eq, nat_lt, nat_le, ◌≡◌, refl, ap, sym, subst, ◌∙◌, map, length, arith}
use Rattle.std.proofs.lemmas.Bool.{ltb-true, lt-ltb}
use Rattle.std.specs.Int.Digits.{number_from_digits_after}
use Rattle.std.proofs.lemmas.Bool.Decides.{nat_tests}
use Rattle.ldap_words.specs.Numbers.{is_digit, are_digits, decimal}
pub use Rattle.ldap_words.proofs.Written.{and_left, and_right, IsWritten, whole_is_written, number_is_written}
use Rattle.ldap_syntax.specs.Meaning.{is_before}
use Rattle.ldap_syntax.specs.Keys.{counted, turned}

-- what digits write behind a number
abbrev pub after : ℕ → List ℕ → ℕ
after n ds = number_from_digits_after 10 n (map (λ c. c - 48) ds)

pub record IsDigit (c : ℕ) : Type 0 where
  pub low : 48 ≤ c
  pub high : c < 58

pub digit : (c : ℕ) → is_digit c ≡ true → IsDigit c
digit c h = record {
  low = grind (arith, nat_tests, and_left (nat_le 48 c) (nat_le c 57) h);
  high =
      grind (arith, nat_tests, and_right (nat_le 48 c) (nat_le c 57) h);
}

-- a longer or equal row of digits behind a greater number writes a greater one
pub more_after : (m n : ℕ) (cs ds : List ℕ) → m < n → length cs ≤ length ds → are_digits cs ≡ true →
    after m cs < after n ds
more_after m n [] [] lt le h = lt
more_after m n [] (d ∷ ds) lt le h = more_after m (n * 10 + (d - 48)) [] ds (omega arith) (omega arith) refl
more_after m n (c ∷ cs) [] lt le h = absurd (omega (arith, le))
more_after m n (c ∷ cs) (d ∷ ds) lt le h =
    let f : IsDigit c = digit c (and_left (is_digit c) (are_digits cs) h) in
    let small : m * 10 + (c - 48) < n * 10 + (d - 48) = omega (arith, f.low, f.high, lt) in
    more_after (m * 10 + (c - 48)) (n * 10 + (d - 48)) cs ds small (omega (arith, le))
    (and_right (is_digit c) (are_digits cs) h)

-- two rows of digits of one length, behind one number
pub data Rows (n : ℕ) (cs ds : List ℕ) : Type 0 where
  row_less : is_before cs ds ≡ true → is_before (turned ds) (turned cs) ≡ true → after n cs < after n ds → Rows n cs ds
  row_same : cs ≡ ds → Rows n cs ds
  row_more : is_before ds cs ≡ true → is_before (turned cs) (turned ds) ≡ true → after n ds < after n cs → Rows n cs ds

-- the order of lists, by their heads
pub head_less : (a b : ℕ) (xs ys : List ℕ) → a < b → is_before (a ∷ xs) (b ∷ ys) ≡ true
head_less a b xs ys lt = rw (lt-ltb a b lt) refl

pub head_same : (a : ℕ) (xs ys : List ℕ) → is_before xs ys ≡ true → is_before (a ∷ xs) (a ∷ ys) ≡ true
head_same a xs ys h = grind (arith, nat_tests, h)

rows_step : (n c : ℕ) (cs ds : List ℕ) → Rows (n * 10 + (c - 48)) cs ds → Rows n (c ∷ cs) (c ∷ ds)
rows_step n c cs ds (row_less a b l) = row_less (head_same c cs ds a) (head_same (255 - c) (turned ds) (turned cs) b) l
rows_step n c cs ds (row_same e) = row_same (ap (λ (x : List ℕ). c ∷ x) e)
rows_step n c cs ds (row_more a b l) = row_more (head_same c ds cs a) (head_same (255 - c) (turned cs) (turned ds) b) l

-- two numbers are less, same or more
pub data Three (a b : ℕ) : Type 0 where
  three_less : a < b → Three a b
  three_same : a ≡ b → Three a b
  three_more : b < a → Three a b

three_by : (a b : ℕ) (x y : Bool) → nat_lt a b ≡ x → nat_lt b a ≡ y → Three a b
three_by a b true y h k = three_less (ltb-true a b h)
three_by a b false true h k = three_more (ltb-true b a k)
three_by a b false false h k = three_same (grind (arith, nat_tests, h, k))

pub three : (a b : ℕ) → Three a b
three a b = three_by a b (nat_lt a b) (nat_lt b a) refl refl

rows_by_head : (n c d : ℕ) (cs ds : List ℕ) → IsDigit c → IsDigit d → length cs ≡ length ds → are_digits cs ≡ true →
    are_digits ds ≡ true → ((m : ℕ) → Rows m cs ds) → Three c d → Rows n (c ∷ cs) (d ∷ ds)
rows_by_head n c d cs ds f g e h k rest (three_less lt) =
    row_less (head_less c d cs ds lt) (head_less (255 - d) (255 - c) (turned ds) (turned cs)
    (omega (arith, f.low, f.high, g.low, g.high, lt)))
    (more_after (n * 10 + (c - 48)) (n * 10 + (d - 48)) cs ds (omega (arith, f.low, f.high, g.low, g.high, lt))
    (omega (arith, e)) h)
rows_by_head n c d cs ds f g e h k rest (three_same same) =
    subst (λ (x : ℕ). Rows n (c ∷ cs) (x ∷ ds)) same (rows_step n c cs ds (rest (n * 10 + (c - 48))))
rows_by_head n c d cs ds f g e h k rest (three_more lt) =
    row_more (head_less d c ds cs lt) (head_less (255 - c) (255 - d) (turned cs) (turned ds)
    (omega (arith, f.low, f.high, g.low, g.high, lt)))
    (more_after (n * 10 + (d - 48)) (n * 10 + (c - 48)) ds cs (omega (arith, f.low, f.high, g.low, g.high, lt))
    (omega (arith, e)) k)

pub rows : (cs ds : List ℕ) → length cs ≡ length ds → are_digits cs ≡ true → are_digits ds ≡ true → (n : ℕ) →
    Rows n cs ds
rows [] [] e h k n = row_same refl
rows [] (d ∷ ds) e h k n = absurd (omega (arith, e))
rows (c ∷ cs) [] e h k n = absurd (omega (arith, e))
rows (c ∷ cs) (d ∷ ds) e h k n =
    rows_by_head n c d cs ds (digit c (and_left (is_digit c) (are_digits cs) h))
    (digit d (and_left (is_digit d) (are_digits ds) k)) (omega (arith, e))
    (and_right (is_digit c) (are_digits cs) h) (and_right (is_digit d) (are_digits ds) k)
    (rows cs ds (omega (arith, e)) (and_right (is_digit c) (are_digits cs) h) (and_right (is_digit d) (are_digits ds)
    k)) (three c d)

-- so many ones as there are digits, and a zero before the rest
abbrev pub count_before : List ℕ → List ℕ → List ℕ
count_before cs t = map (λ d. 1) cs ++ 0 ∷ t

pub fewer_before : (cs ds t u : List ℕ) → length cs < length ds → is_before (count_before cs t) (count_before ds u) ≡
    true
fewer_before [] [] t u lt = absurd (omega (arith, lt))
fewer_before [] (d ∷ ds) t u lt = refl
fewer_before (c ∷ cs) [] t u lt = absurd (omega (arith, lt))
fewer_before (c ∷ cs) (d ∷ ds) t u lt = fewer_before cs ds t u (omega (arith, lt))

pub fewer_turned : (cs ds t u : List ℕ) → length cs < length ds → is_before (turned (count_before ds u))
    (turned (count_before cs t)) ≡ true
fewer_turned [] [] t u lt = absurd (omega (arith, lt))
fewer_turned [] (d ∷ ds) t u lt = refl
fewer_turned (c ∷ cs) [] t u lt = absurd (omega (arith, lt))
fewer_turned (c ∷ cs) (d ∷ ds) t u lt = fewer_turned cs ds t u (omega (arith, lt))

pub as_many : (cs ds t u : List ℕ) → length cs ≡ length ds → is_before (count_before cs t) (count_before ds u) ≡
    is_before t u
as_many [] [] t u e = refl
as_many [] (d ∷ ds) t u e = absurd (omega (arith, e))
as_many (c ∷ cs) [] t u e = absurd (omega (arith, e))
as_many (c ∷ cs) (d ∷ ds) t u e = as_many cs ds t u (omega (arith, e))

pub as_many_turned : (cs ds t u : List ℕ) → length cs ≡ length ds → is_before (turned (count_before cs t))
    (turned (count_before ds u)) ≡ is_before (turned t) (turned u)
as_many_turned [] [] t u e = refl
as_many_turned [] (d ∷ ds) t u e = absurd (omega (arith, e))
as_many_turned (c ∷ cs) [] t u e = absurd (omega (arith, e))
as_many_turned (c ∷ cs) (d ∷ ds) t u e = as_many_turned cs ds t u (omega (arith, e))

-- two numbers as they are written
pub data Numbers (cs ds : List ℕ) : Type 0 where
  less : is_before (counted cs) (counted ds) ≡ true → is_before (turned (counted ds)) (turned (counted cs)) ≡ true →
      decimal cs < decimal ds → Numbers cs ds
  same : cs ≡ ds → Numbers cs ds
  more : is_before (counted ds) (counted cs) ≡ true → is_before (turned (counted cs)) (turned (counted ds)) ≡ true →
      decimal ds < decimal cs → Numbers cs ds

shorter_is_less : (cs ds : List ℕ) → IsWritten cs → IsWritten ds → length cs < length ds → decimal cs < decimal ds
shorter_is_less cs [] f g lt = absurd (omega (arith, lt))
shorter_is_less cs (d ∷ []) f g lt = absurd (omega (arith, lt, f.some))
shorter_is_less cs (d ∷ e ∷ ds) f g lt =
    let lead : 48 < d = g.leads d e ds refl in
    more_after 0 (0 * 10 + (d - 48)) cs (e ∷ ds) (omega (arith, lead)) (omega (arith, lt)) f.digits

by_rows : (cs ds : List ℕ) → length cs ≡ length ds → Rows 0 cs ds → Numbers cs ds
by_rows cs ds e (row_less a b l) = less (as_many cs ds cs ds e ∙ a) (as_many_turned ds cs ds cs (sym e) ∙ b) l
by_rows cs ds e (row_same s) = same s
by_rows cs ds e (row_more a b l) = more (as_many ds cs ds cs (sym e) ∙ a) (as_many_turned cs ds cs ds e ∙ b) l

by_length : (cs ds : List ℕ) → IsWritten cs → IsWritten ds → Three (length cs) (length ds) → Numbers cs ds
by_length cs ds f g (three_less lt) = less (fewer_before cs ds cs ds lt) (fewer_turned cs ds cs ds lt)
    (shorter_is_less cs ds f g lt)
by_length cs ds f g (three_same e) = by_rows cs ds e (rows cs ds e f.digits g.digits 0)
by_length cs ds f g (three_more lt) = more (fewer_before ds cs ds cs lt) (fewer_turned ds cs ds cs lt)
    (shorter_is_less ds cs g f lt)

pub numbers : (cs ds : List ℕ) → IsWritten cs → IsWritten ds → Numbers cs ds
numbers cs ds f g = by_length cs ds f g (three (length cs) (length ds))

-- the order of lists is a strict one
pub not_before_itself : (xs : List ℕ) → is_before xs xs ≡ true → ⊥
not_before_itself [] h = cc
not_before_itself (x ∷ xs) h = not_before_itself xs (grind (arith, nat_tests, h))

head_decides : (x y : ℕ) (b : Bool) → x < y → (nat_lt y x || (nat_eq y x && b)) ≡ true → ⊥
head_decides x y b lt h = grind (arith, nat_tests, h)

tail_decides : (x : ℕ) (b : Bool) → (nat_lt x x || (nat_eq x x && b)) ≡ true → b ≡ true
tail_decides x b h = grind (arith, nat_tests, h)

heads_differ : (x y : ℕ) (xs ys : List ℕ) → (is_before xs ys ≡ true → is_before ys xs ≡ true → ⊥) → Three x y →
    is_before (x ∷ xs) (y ∷ ys) ≡ true → is_before (y ∷ ys) (x ∷ xs) ≡ true → ⊥
heads_differ x y xs ys rest (three_less lt) h k = head_decides x y (is_before ys xs) lt k
heads_differ x y xs ys rest (three_more lt) h k = head_decides y x (is_before xs ys) lt h
heads_differ x y xs ys rest (three_same e) h k =
    rest (tail_decides x (is_before xs ys) (subst (λ (z : ℕ). is_before (x ∷ xs) (z ∷ ys) ≡ true) (sym e) h))
    (tail_decides x (is_before ys xs) (subst (λ (z : ℕ). is_before (z ∷ ys) (x ∷ xs) ≡ true) (sym e) k))

pub not_both_before : (xs ys : List ℕ) → is_before xs ys ≡ true → is_before ys xs ≡ true → ⊥
not_both_before [] [] h k = cc
not_both_before [] (y ∷ ys) h k = cc
not_both_before (x ∷ xs) [] h k = cc
not_both_before (x ∷ xs) (y ∷ ys) h k = heads_differ x y xs ys (not_both_before xs ys) (three x y) h k
