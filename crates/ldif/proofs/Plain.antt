-- LDIF: the octets that a description has.
use Rattle.std.proofs.Common.{◌≡◌, ℕ, suc, ◌+◌, ◌<◌, List, [], ◌∷◌, length, take, drop, position, get_or, Bool, true, false, cond, not, ◌&&◌, ◌||◌, Option, None, Some, nat_eq, nat_le, refl, sym, ap, ◌∙◌, arith, drop-cons, take-append-drop}
use Rattle.std.specs.List.{list_all, slice_split, onto_first}
use Rattle.std.specs.Str.{IsAscii, is_utf8}
use Rattle.std.proofs.lemmas.Bool.{leb-true, eqb-true}
use Rattle.std.proofs.lemmas.List.Folds.{list_all-append}
use Rattle.std.proofs.lemmas.List.Quantifiers.{position-Some}
use Rattle.std.proofs.lemmas.Str.{IsUtf8-from_ascii, is_utf8-from_IsUtf8}
use Rattle.std.proofs.lemmas.Str.Ascii.{IsAscii-nil, IsAscii-cons}
use Rattle.ldap_words.specs.Identifiers.{has_dot, are_numbers, is_numericoid}
use Rattle.ldap_words.specs.Numbers.{is_digit, is_number}
use Rattle.ldap_words.specs.Words.{is_alpha, is_key_octet, is_descr, is_oid, is_option, is_described, is_description}
use Rattle.ldif.specs.Descriptions.{is_dn, begins_change, is_type}
use Rattle.ldif.proofs.Booleans.{left, right, both, either}
use Rattle.ldap_words.proofs.Written.{number_digits}

-- an octet of a description: a keychar, `.` or `;`
abbrev pub is_plain : ℕ → Bool
is_plain c = is_key_octet c || nat_eq c 46 || nat_eq c 59

pub weaker : (p q : ℕ → Bool) (xs : List ℕ) → ((x : ℕ) → p x ≡ true → q x ≡ true) → list_all p xs ≡ true →
    list_all q xs ≡ true
weaker p q [] f h = refl
weaker p q (x ∷ xs) f h = both (q x) (list_all q xs) (f x (left (p x) (list_all p xs) h))
    (weaker p q xs f (right (p x) (list_all p xs) h))

each_weaker : (p q : List ℕ → Bool) (xs : List (List ℕ)) → ((x : List ℕ) → p x ≡ true → q x ≡ true) → list_all p xs ≡
    true → list_all q xs ≡ true
each_weaker p q [] f h = refl
each_weaker p q (x ∷ xs) f h = both (q x) (list_all q xs) (f x (left (p x) (list_all p xs) h))
    (each_weaker p q xs f (right (p x) (list_all p xs) h))

key_plain : (c : ℕ) → is_key_octet c ≡ true → is_plain c ≡ true
key_plain c h = ap (λ b. b || nat_eq c 46 || nat_eq c 59) h

alpha_key : (c : ℕ) → is_alpha c ≡ true → is_key_octet c ≡ true
alpha_key c h = ap (λ b. b || is_digit c || nat_eq c 45) h

digit_key : (c : ℕ) → is_digit c ≡ true → is_key_octet c ≡ true
digit_key c h = by (is_alpha c) (is_digit c) (nat_eq c 45) h
  where
    by : (a b d : Bool) → b ≡ true → (a || b || d) ≡ true
    by true b d h = refl
    by false true d h = refl
    by false false d h = absurd cc

keys_plain : (xs : List ℕ) → list_all is_key_octet xs ≡ true → list_all is_plain xs ≡ true
keys_plain xs h = weaker is_key_octet is_plain xs key_plain h

descr_plain : (d : List ℕ) → is_descr d ≡ true → list_all is_plain d ≡ true
descr_plain [] h = refl
descr_plain (c ∷ cs) h =
    both (is_plain c) (list_all is_plain cs)
    (key_plain c (alpha_key c (left (is_alpha c) (list_all is_key_octet cs) h)))
    (keys_plain cs (right (is_alpha c) (list_all is_key_octet cs) h))

option_plain : (d : List ℕ) → is_option d ≡ true → list_all is_plain d ≡ true
option_plain [] h = refl
option_plain (c ∷ cs) h =
    both (is_plain c) (list_all is_plain cs) (key_plain c (left (is_key_octet c) (list_all is_key_octet cs) h))
    (keys_plain cs (right (is_key_octet c) (list_all is_key_octet cs) h))

number_plain : (d : List ℕ) → is_number d ≡ true → list_all is_plain d ≡ true
number_plain d h = weaker is_digit is_plain d (λ x e. key_plain x (digit_key x e)) (number_digits d h)

split_step : (b : Bool) (x : ℕ) (xs : List ℕ) (parts : List (List ℕ)) → (b ≡ true → is_plain x ≡ true) →
    (list_all (list_all is_plain) parts ≡ true → list_all is_plain xs ≡ true)
    → list_all (list_all is_plain) (cond b ([] ∷ parts) (onto_first x parts)) ≡ true →
    (is_plain x && list_all is_plain xs) ≡ true
split_step true x xs parts f g h = both (is_plain x) (list_all is_plain xs) (f refl) (g h)
split_step false x xs [] f g h = both (is_plain x) (list_all is_plain xs)
    (left (is_plain x) true (left (is_plain x && true) true h)) (g refl)
split_step false x xs (y ∷ ys) f g h =
    let front = left (is_plain x && list_all is_plain y) (list_all (list_all is_plain) ys) h in
    both (is_plain x) (list_all is_plain xs) (left (is_plain x) (list_all is_plain y) front)
    (g (both (list_all is_plain y) (list_all (list_all is_plain) ys) (right (is_plain x) (list_all is_plain y) front)
    (right (is_plain x && list_all is_plain y) (list_all (list_all is_plain) ys) h)))

same_plain : (k x : ℕ) → is_plain k ≡ true → nat_eq x k ≡ true → is_plain x ≡ true
same_plain k x h e = ap is_plain (eqb-true x k e) ∙ h

-- octets are plain where their parts are, and what parts them
split_plain : (k : ℕ) (xs : List ℕ) → is_plain k ≡ true → list_all (list_all is_plain) (slice_split (λ c. nat_eq c k)
    xs) ≡ true → list_all is_plain xs ≡ true
split_plain k [] p h = refl
split_plain k (x ∷ xs) p h = split_step (nat_eq x k) x xs (slice_split (λ c. nat_eq c k) xs) (same_plain k x p)
    (split_plain k xs p) h

oid_plain : (d : List ℕ) → is_oid d ≡ true → list_all is_plain d ≡ true
oid_plain d h =
    either (is_descr d) (is_numericoid d) h (descr_plain d)
    (λ e. split_plain 46 d refl (each_weaker is_number (list_all is_plain) (slice_split (λ c. nat_eq c 46) d)
    number_plain (right (has_dot d) (are_numbers d) e)))

options_plain : (d : List ℕ) → list_all is_option (slice_split (λ c. nat_eq c 59) d) ≡ true → list_all is_plain d ≡ true
options_plain d h = split_plain 59 d refl (each_weaker is_option (list_all is_plain) (slice_split (λ c. nat_eq c 59)
    d) option_plain h)

joined_plain : (d : List ℕ) (i : ℕ) → i < length d → is_plain (get_or d i 0) ≡ true → list_all is_plain (take i d) ≡
    true → list_all is_plain (drop (suc i) d) ≡ true → list_all is_plain d ≡ true
joined_plain d i lt at front rest =
    let cut = drop-cons d i 0 lt in
    ap (list_all is_plain) (sym (take-append-drop i d)) ∙ list_all-append is_plain (take i d) (drop i d)
    ∙ both (list_all is_plain (take i d)) (list_all is_plain (drop i d)) front
    (ap (list_all is_plain) cut ∙ both (is_plain (get_or d i 0)) (list_all is_plain (drop (suc i) d)) at rest)

described_plain : (d : List ℕ) (o : Option ℕ) → position (λ c. nat_eq c 59) d ≡ o → is_described d o ≡ true →
    list_all is_plain d ≡ true
described_plain d None e h = oid_plain d h
described_plain d (Some i) e h =
    let found = position-Some (λ c. nat_eq c 59) d i 0 e in
    let options = right (is_oid (take i d)) (list_all is_option (slice_split (λ c. nat_eq c 59) (drop (i + 1) d))) h in
    joined_plain d i found.0 (same_plain 59 (get_or d i 0) refl found.1)
    (oid_plain (take i d) (left (is_oid (take i d))
    (list_all is_option (slice_split (λ c. nat_eq c 59) (drop (i + 1) d))) h))
    (let n : i + 1 ≡ suc i = omega arith in rw n at (options_plain (drop (i + 1) d) options))

pub type_plain : (d : List ℕ) → is_type d ≡ true → list_all is_plain d ≡ true
type_plain d h =
    described_plain d (position (λ c. nat_eq c 59) d) refl
    (left (is_description d) (not (is_dn d)) (left (is_description d && not (is_dn d)) (not (begins_change d)) h))

-- ---- they are text

alpha_small : (c : ℕ) → is_alpha c ≡ true → c < 128
alpha_small c h =
    either (nat_le 65 c && nat_le c 90) (nat_le 97 c && nat_le c 122) h
    (λ g. let x = leb-true c 90 (right (nat_le 65 c) (nat_le c 90) g) in omega (arith, x))
    (λ g. let x = leb-true c 122 (right (nat_le 97 c) (nat_le c 122) g) in omega (arith, x))

plain_small : (c : ℕ) → is_plain c ≡ true → c < 128
plain_small c h =
    either (is_key_octet c || nat_eq c 46) (nat_eq c 59) h
    (λ g. either (is_key_octet c) (nat_eq c 46) g
    (λ k. either (is_alpha c || is_digit c) (nat_eq c 45) k
    (λ l. either (is_alpha c) (is_digit c) l (alpha_small c)
    (λ m. let x = leb-true c 57 (right (nat_le 48 c) (nat_le c 57) m) in omega (arith, x)))
    (λ l. let x = eqb-true c 45 l in omega (arith, x)))
    (λ k. let x = eqb-true c 46 k in omega (arith, x)))
    (λ g. let x = eqb-true c 59 g in omega (arith, x))

plain_ascii : (d : List ℕ) → list_all is_plain d ≡ true → IsAscii d
plain_ascii [] h = IsAscii-nil
plain_ascii (c ∷ cs) h = IsAscii-cons c cs (plain_small c (left (is_plain c) (list_all is_plain cs) h))
    (plain_ascii cs (right (is_plain c) (list_all is_plain cs) h))

pub type_text : (d : List ℕ) → is_type d ≡ true → is_utf8 d ≡ true
type_text d h = is_utf8-from_IsUtf8 d (IsUtf8-from_ascii d (plain_ascii d (type_plain d h)))

-- a type that is no text is none
pub no_text : (d : List ℕ) → is_type d ≡ true → is_utf8 d ≡ false → ⊥
no_text d h e = let t = sym (type_text d h) ∙ e in absurd cc
