-- Filter texts: what is printed of a value spells it, and only octets are spelled.
use Rattle.std.proofs.Common.{◌≡◌, ℕ, zero, suc, ◌+◌, ◌-◌, ◌*◌, ◌/◌, ◌%◌, ◌<◌, ◌≤◌, List, [], ◌∷◌, ◌++◌, take, drop, Bool, true, false, cond, ◌&&◌, ◌||◌, Option, None, Some, nat_le, nat_lt, refl, sym, ap, ◌∙◌, append_assoc, length, arith, option_map}
use Rattle.std.specs.List.{list_all}
use Rattle.std.specs.Str.{is_utf8}
use Rattle.std.proofs.lemmas.Bool.{leb-true, le-leb, lt-ltb, ltb-true}
use Rattle.filter_text.specs.Values.{is_normal, hex_digit, with_high, hex_octet, IsValue, nothing, normal, escaped, are_octets, digit, escape, put_octet, is_high, is_character, character_len, put_first, printed_from}
use Rattle.filter_text.proofs.Booleans.{left, right, both, either}

digit_read : (n : ℕ) → n < 16 → hex_digit (digit n) ≡ Some n
digit_read zero h = refl
digit_read (suc zero) h = refl
digit_read (suc (suc zero)) h = refl
digit_read (suc (suc (suc zero))) h = refl
digit_read (suc (suc (suc (suc zero)))) h = refl
digit_read (suc (suc (suc (suc (suc zero))))) h = refl
digit_read (suc (suc (suc (suc (suc (suc zero)))))) h = refl
digit_read (suc (suc (suc (suc (suc (suc (suc zero))))))) h = refl
digit_read (suc (suc (suc (suc (suc (suc (suc (suc zero)))))))) h = refl
digit_read (suc (suc (suc (suc (suc (suc (suc (suc (suc zero))))))))) h = refl
digit_read (suc (suc (suc (suc (suc (suc (suc (suc (suc (suc zero)))))))))) h = refl
digit_read (suc (suc (suc (suc (suc (suc (suc (suc (suc (suc (suc zero))))))))))) h = refl
digit_read (suc (suc (suc (suc (suc (suc (suc (suc (suc (suc (suc (suc zero)))))))))))) h = refl
digit_read (suc (suc (suc (suc (suc (suc (suc (suc (suc (suc (suc (suc (suc zero))))))))))))) h = refl
digit_read (suc (suc (suc (suc (suc (suc (suc (suc (suc (suc (suc (suc (suc (suc zero)))))))))))))) h = refl
digit_read (suc (suc (suc (suc (suc (suc (suc (suc (suc (suc (suc (suc (suc (suc (suc zero))))))))))))))) h = refl
digit_read (suc (suc (suc (suc (suc (suc (suc (suc (suc (suc (suc (suc (suc (suc (suc (suc n)))))))))))))))) h =
    absurd (omega (arith, h))

escape_read : (c : ℕ) → c < 256 → hex_octet (digit (c / 16)) (digit (c % 16)) ≡ Some c
escape_read c h =
    ap (λ o. with_high o (hex_digit (digit (c % 16)))) (digit_read (c / 16) (omega (arith, h)))
    ∙ ap (λ o. option_map (λ l. c / 16 * 16 + l) o) (digit_read (c % 16) (omega arith))
    ∙ ap Some (omega arith)

escape_spells : (c : ℕ) (v text : List ℕ) → c < 256 → IsValue v text → IsValue (c ∷ v) (escape c ++ text)
escape_spells c v text h s = escaped (digit (c / 16)) (digit (c % 16)) c (escape_read c h) s

octet_spells : (b : Bool) (c : ℕ) (v text : List ℕ) → is_normal c ≡ b → c < 256 → IsValue v text →
    IsValue (c ∷ v) (cond b (c ∷ []) (escape c) ++ text)
octet_spells true c v text e h s = normal c e s
octet_spells false c v text e h s = escape_spells c v text h s

alone_spells : (a b : Bool) (c : ℕ) (v text : List ℕ) → is_normal c ≡ b → c < 256 → IsValue v text →
    IsValue (c ∷ v) (cond (a && b) (c ∷ []) (escape c) ++ text)
alone_spells true b c v text e h s = octet_spells b c v text e h s
alone_spells false b c v text e h s = escape_spells c v text h s

first_spells : (n c : ℕ) (v text : List ℕ) → c < 256 → IsValue v text → IsValue (c ∷ v) (put_first n c ++ text)
first_spells zero c v text h s = alone_spells (nat_lt c 128) (is_normal c) c v text refl h s
first_spells (suc n) c v text h s = octet_spells (is_normal c) c v text refl h s

pub from_spells : (n : ℕ) (v : List ℕ) → are_octets v ≡ true → IsValue v (printed_from n v)
from_spells n [] h = nothing
from_spells (suc n) (c ∷ cs) h = octet_spells (is_normal c) c cs (printed_from n cs) refl
    (ltb-true c 256 (left (nat_lt c 256) (are_octets cs) h)) (from_spells n cs (right (nat_lt c 256) (are_octets cs) h))
from_spells zero (c ∷ cs) h =
    let n = character_len (c ∷ cs) in
    first_spells n c cs (printed_from (n - 1) cs) (ltb-true c 256 (left (nat_lt c 256) (are_octets cs) h))
    (from_spells (n - 1) cs (right (nat_lt c 256) (are_octets cs) h))

-- ---- only octets are spelled

same_some : {m n : ℕ} → Some m ≡ Some n → m ≡ n
same_some i = cc

none_some : {n : ℕ} → None ≡ Some n → ⊥
none_some i = cc

small_digit : (d n : ℕ) → hex_digit d ≡ Some n → n < 16
small_digit d n = by (nat_le 48 d) (nat_le d 57) (nat_le 65 d) (nat_le d 70) (nat_le 97 d) (nat_le d 102) refl refl
    refl refl refl refl
  where
    by : (a b e f g h : Bool) → nat_le 48 d ≡ a → nat_le d 57 ≡ b → nat_le 65 d ≡ e → nat_le d 70 ≡ f → nat_le 97 d ≡
        g → nat_le d 102 ≡ h
        → cond (a && b) (Some (d - 48)) (cond (e && f) (Some (d - 55)) (cond (g && h) (Some (d - 87)) None)) ≡
        Some n → n < 16
    by true true e f g h p q r s t u i = let x = leb-true 48 d p in let y = leb-true d 57 q in omega
        (arith, x, y, same_some i)
    by true false true true g h p q r s t u i = let x = leb-true 65 d r in let y = leb-true d 70 s in omega
        (arith, x, y, same_some i)
    by true false true false true true p q r s t u i = let x = leb-true 97 d t in let y = leb-true d 102 u in omega
        (arith, x, y, same_some i)
    by true false false f true true p q r s t u i = let x = leb-true 97 d t in let y = leb-true d 102 u in omega
        (arith, x, y, same_some i)
    by false b true true g h p q r s t u i = let x = leb-true 65 d r in let y = leb-true d 70 s in omega
        (arith, x, y, same_some i)
    by false b true false true true p q r s t u i = let x = leb-true 97 d t in let y = leb-true d 102 u in omega
        (arith, x, y, same_some i)
    by false b false f true true p q r s t u i = let x = leb-true 97 d t in let y = leb-true d 102 u in omega
        (arith, x, y, same_some i)
    by true false true false true false p q r s t u i = absurd (none_some i)
    by true false true false false h p q r s t u i = absurd (none_some i)
    by true false false f true false p q r s t u i = absurd (none_some i)
    by true false false f false h p q r s t u i = absurd (none_some i)
    by false b true false true false p q r s t u i = absurd (none_some i)
    by false b true false false h p q r s t u i = absurd (none_some i)
    by false b false f true false p q r s t u i = absurd (none_some i)
    by false b false f false h p q r s t u i = absurd (none_some i)

small_octet : (o p : Option ℕ) (c : ℕ) → ((n : ℕ) → o ≡ Some n → n < 16) → ((n : ℕ) → p ≡ Some n → n < 16) →
    with_high o p ≡ Some c → c < 256
small_octet None p c f g e = absurd cc
small_octet (Some h) None c f g e = absurd cc
small_octet (Some h) (Some l) c f g e = let same : h * 16 + l ≡ c = cc in omega (arith, f h refl, g l refl, same)

pub hex_small : (h l c : ℕ) → hex_octet h l ≡ Some c → c < 256
hex_small h l c e = small_octet (hex_digit h) (hex_digit l) c (small_digit h) (small_digit l) e

pub normal_small : (c : ℕ) → is_normal c ≡ true → c < 256
normal_small c e =
    either (nat_le 1 c && nat_le c 39 || nat_le 43 c && nat_le c 91) (nat_le 93 c && nat_le c 255) e
    (λ f. either (nat_le 1 c && nat_le c 39) (nat_le 43 c && nat_le c 91) f
    (λ g. let x = leb-true c 39 (right (nat_le 1 c) (nat_le c 39) g) in omega (arith, x))
    (λ g. let x = leb-true c 91 (right (nat_le 43 c) (nat_le c 91) g) in omega (arith, x)))
    (λ f. let x = leb-true c 255 (right (nat_le 93 c) (nat_le c 255) f) in omega (arith, x))

pub octets_spelled : {v text : List ℕ} → IsValue v text → are_octets v ≡ true
octets_spelled nothing = refl
octets_spelled (normal {v} c e s) = both (nat_lt c 256) (are_octets v) (lt-ltb c 256 (normal_small c e))
    (octets_spelled s)
octets_spelled (escaped {v} h l c e s) = both (nat_lt c 256) (are_octets v) (lt-ltb c 256 (hex_small h l c e))
    (octets_spelled s)

-- ---- characters at the front

high_normal : (c : ℕ) → is_high c ≡ true → is_normal c ≡ true
high_normal c e =
    let x = leb-true 128 c (left (nat_le 128 c) (nat_le c 255) e) in
    let y = both (nat_le 93 c) (nat_le c 255) (le-leb 93 c (omega (arith, x))) (right (nat_le 128 c) (nat_le c 255) e)
    in
    or_right (nat_le 1 c && nat_le c 39 || nat_le 43 c && nat_le c 91) (nat_le 93 c && nat_le c 255) y
  where
    or_right : (a b : Bool) → b ≡ true → (a || b) ≡ true
    or_right true b e = refl
    or_right false b e = e

high_stands : (c : ℕ) → is_high c ≡ true → put_octet c ≡ c ∷ []
high_stands c e = ap (λ b. cond b (c ∷ []) (escape c)) (high_normal c e)

high_from : (n : ℕ) (v : List ℕ) → list_all is_high (take n v) ≡ true → printed_from n v ≡ take n v ++ printed_from 0
    (drop n v)
high_from zero v h = refl
high_from (suc n) [] h = refl
high_from (suc n) (c ∷ cs) h =
    ap (λ x. x ++ printed_from n cs) (high_stands c (left (is_high c) (list_all is_high (take n cs)) h))
    ∙ ap (λ x. c ∷ x) (high_from n cs (right (is_high c) (list_all is_high (take n cs)) h))

pub character_from : (m : ℕ) (v : List ℕ) → character_len v ≡ suc m → list_all is_high (take (suc m) v) ≡ true →
    printed_from 0 v ≡ take (suc m) v ++ printed_from 0 (drop (suc m) v)
character_from m [] e h = refl
character_from m (c ∷ cs) e h =
    ap (λ n. put_first n c ++ printed_from (n - 1) cs) e ∙ ap (λ n. put_octet c ++ printed_from n cs) (omega arith)
    ∙ high_from (suc m) (c ∷ cs) h

-- ---- one step of printing

long_enough : (n : ℕ) (v : List ℕ) → is_character n v ≡ true → n ≤ length v
long_enough n v h = leb-true n (length v) (left (nat_le n (length v)) (list_all is_high (take n v))
    (left (nat_le n (length v) && list_all is_high (take n v)) (is_utf8 (take n v)) h))

all_high : (n : ℕ) (v : List ℕ) → is_character n v ≡ true → list_all is_high (take n v) ≡ true
all_high n v h = right (nat_le n (length v)) (list_all is_high (take n v))
    (left (nat_le n (length v) && list_all is_high (take n v)) (is_utf8 (take n v)) h)

from_character : (n : ℕ) (v : List ℕ) → 0 < n → character_len v ≡ n → is_character n v ≡ true → printed_from 0 v ≡
    take n v ++ printed_from 0 (drop n v)
from_character zero v p e h = absurd (omega (arith, p))
from_character (suc m) v p e h = character_from m v e (all_high (suc m) v h)

pub a_character : (out new text v : List ℕ) → character_len v ≡ length text → is_character (length text) v ≡ true →
    0 < length text → text ≡ take (length text) v → new ≡ out ++ text
    → (0 < length text) × (length text ≤ length v) × (new ++ printed_from 0 (drop (length text) v) ≡
    out ++ printed_from 0 v)
a_character out new text v e h some is put = (
  some,
  long_enough (length text) v h,
  ap (λ x. x ++ printed_from 0 (drop (length text) v)) put
      ∙ append_assoc out text (printed_from 0 (drop (length text) v))
      ∙ ap (λ x. out ++ x) (ap (λ x. x ++ printed_from 0 (drop (length text) v)) is
      ∙ sym (from_character (length text) v some e h)),
)
