-- LDIF: lines as they are written hold neither LF nor CR, and begin with no space.
use Rattle.std.proofs.Common.{◌≡◌, ℕ, zero, suc, ◌+◌, ◌/◌, ◌%◌, ◌*◌, List, [], ◌∷◌, length, replicate, Bool, true, false, cond, not, ◌&&◌, nat_eq, nat_le, refl, sym, ap, ◌∙◌}
use Rattle.std.specs.Prelude.{slice_index}
use Rattle.std.specs.List.{list_all}
use Rattle.std.proofs.lemmas.Bool.{eqb-true, eq-eqb}
use Rattle.std.proofs.lemmas.List.Folds.{list_all-append}
use Rattle.base64.specs.Engines.{standard}
use Rattle.base64.specs.GeneralPurpose.{encode_of}
use Rattle.base64.specs.Rfc4648.{encode_symbols, padding_len}
use Rattle.ldif.specs.Written.{is_safe_octet, is_safe_first, is_safe, value_part, pair_line, ends_with_space}
use Rattle.ldif.proofs.Booleans.{left, right, both}
use Rattle.ldif.proofs.Plain.{is_plain, weaker}

-- neither LF nor CR nor a space
abbrev pub is_symbol : ℕ → Bool
is_symbol c = not (nat_eq 10 c) && not (nat_eq c 13) && not (nat_eq c 32)

-- neither LF nor CR
abbrev pub is_quiet : ℕ → Bool
is_quiet c = not (nat_eq 10 c) && not (nat_eq c 13)

pub not_true : (b : Bool) → not b ≡ true → b ≡ false
not_true true h = absurd cc
not_true false h = refl

not_false : (b : Bool) → b ≡ false → not b ≡ true
not_false b h = ap not h

pub flip : (a b : ℕ) → nat_eq a b ≡ false → nat_eq b a ≡ false
flip a b h = by (nat_eq b a) refl
  where
    by : (v : Bool) → nat_eq b a ≡ v → v ≡ false
    by false e = refl
    by true e = let same : nat_eq a b ≡ true = eq-eqb a b (sym (eqb-true b a e)) in let bad = sym same ∙ h in absurd cc

-- a plain octet is none that is not plain
pub unlike : (k c : ℕ) → is_plain k ≡ false → is_plain c ≡ true → nat_eq k c ≡ false
unlike k c n p = by (nat_eq k c) refl
  where
    by : (v : Bool) → nat_eq k c ≡ v → v ≡ false
    by false e = refl
    by true e = let bad = sym p ∙ ap is_plain (sym (eqb-true k c e)) ∙ n in absurd cc

plain_quiet : (c : ℕ) → is_plain c ≡ true → is_quiet c ≡ true
plain_quiet c p =
    both (not (nat_eq 10 c)) (not (nat_eq c 13)) (not_false (nat_eq 10 c) (unlike 10 c refl p))
    (not_false (nat_eq c 13) (flip 13 c (unlike 13 c refl p)))

safe_quiet : (c : ℕ) → is_safe_octet c ≡ true → is_quiet c ≡ true
safe_quiet c h =
    let front = left (not (nat_eq c 0) && not (nat_eq c 10) && not (nat_eq c 13)) (nat_le c 126) h in
    let two = left (not (nat_eq c 0) && not (nat_eq c 10)) (not (nat_eq c 13)) front in
    both (not (nat_eq 10 c)) (not (nat_eq c 13))
    (not_false (nat_eq 10 c) (flip c 10 (not_true (nat_eq c 10) (right (not (nat_eq c 0)) (not (nat_eq c 10)) two))))
    (right (not (nat_eq c 0) && not (nat_eq c 10)) (not (nat_eq c 13)) front)

symbol_quiet : (c : ℕ) → is_symbol c ≡ true → is_quiet c ≡ true
symbol_quiet c h = left (not (nat_eq 10 c) && not (nat_eq c 13)) (not (nat_eq c 32)) h

-- what passes at each place
pub passes_at : (p : ℕ → Bool) (t : List ℕ) (i : ℕ) → p 0 ≡ true → list_all p t ≡ true → p (slice_index t i) ≡ true
passes_at p [] i z h = z
passes_at p (x ∷ xs) zero z h = left (p x) (list_all p xs) h
passes_at p (x ∷ xs) (suc i) z h = passes_at p xs i z (right (p x) (list_all p xs) h)

-- the 64 symbols
abbrev table : List ℕ
table = standard.encode_table

alphabet : list_all is_symbol table ≡ true
alphabet = refl

symbol_at : (i : ℕ) → is_symbol (slice_index table i) ≡ true
symbol_at i = passes_at is_symbol table i refl alphabet

two_pass : (a b : ℕ) (xs : List ℕ) → is_symbol a ≡ true → is_symbol b ≡ true → list_all is_symbol xs ≡ true →
    list_all is_symbol (a ∷ b ∷ xs) ≡ true
two_pass a b xs p q r = both (is_symbol a) (is_symbol b && list_all is_symbol xs) p
    (both (is_symbol b) (list_all is_symbol xs) q r)

one_pass : (a : ℕ) (xs : List ℕ) → is_symbol a ≡ true → list_all is_symbol xs ≡ true → list_all is_symbol (a ∷ xs) ≡
    true
one_pass a xs p r = both (is_symbol a) (list_all is_symbol xs) p r

symbols : (m : List ℕ) → list_all is_symbol (encode_symbols table m) ≡ true
unfolding encode_symbols
symbols [] = refl
symbols (a ∷ []) =
    two_pass (slice_index table (a / 4)) (slice_index table (a % 4 * 16)) [] (symbol_at (a / 4))
    (symbol_at (a % 4 * 16)) refl
symbols (a ∷ b ∷ []) =
    two_pass (slice_index table (a / 4)) (slice_index table (a % 4 * 16 + b / 16)) (slice_index table (b % 16 * 4) ∷ [])
    (symbol_at (a / 4)) (symbol_at (a % 4 * 16 + b / 16))
    (one_pass (slice_index table (b % 16 * 4)) [] (symbol_at (b % 16 * 4)) refl)
symbols (a ∷ b ∷ c ∷ rest) =
    two_pass (slice_index table (a / 4)) (slice_index table (a % 4 * 16 + b / 16))
    (slice_index table (b % 16 * 4 + c / 64) ∷ slice_index table (c % 64) ∷ encode_symbols table rest)
    (symbol_at (a / 4)) (symbol_at (a % 4 * 16 + b / 16))
    (two_pass (slice_index table (b % 16 * 4 + c / 64)) (slice_index table (c % 64)) (encode_symbols table rest)
    (symbol_at (b % 16 * 4 + c / 64)) (symbol_at (c % 64)) (symbols rest))

padding : (n : ℕ) → list_all is_symbol (replicate n 61) ≡ true
padding zero = refl
padding (suc n) = padding n

pub encoded_symbols : (m : List ℕ) → list_all is_symbol (encode_of standard m) ≡ true
encoded_symbols m =
    list_all-append is_symbol (encode_symbols table m) (replicate (padding_len (length m)) 61)
    ∙ both (list_all is_symbol (encode_symbols table m)) (list_all is_symbol (replicate (padding_len (length m)) 61))
    (symbols m) (padding (padding_len (length m)))

part_quiet : (b : Bool) (c : ℕ) (cs : List ℕ) → is_safe (c ∷ cs) ≡ b →
    list_all is_quiet (cond b (32 ∷ c ∷ cs) (58 ∷ 32 ∷ encode_of standard (c ∷ cs))) ≡ true
part_quiet true c cs e =
    weaker is_safe_octet is_quiet (c ∷ cs) safe_quiet
    (right (is_safe_first c) (list_all is_safe_octet (c ∷ cs))
    (left (is_safe_first c && list_all is_safe_octet (c ∷ cs)) (not (ends_with_space (c ∷ cs))) e))
part_quiet false c cs e = weaker is_symbol is_quiet (encode_of standard (c ∷ cs)) symbol_quiet
    (encoded_symbols (c ∷ cs))

value_quiet : (octets : List ℕ) → list_all is_quiet (value_part octets) ≡ true
value_quiet [] = refl
value_quiet (c ∷ cs) = part_quiet (is_safe (c ∷ cs)) c cs refl

pub pair_quiet : (word octets : List ℕ) → list_all is_plain word ≡ true → list_all is_quiet (pair_line word octets) ≡
    true
pair_quiet word octets h =
    list_all-append is_quiet word (58 ∷ value_part octets)
    ∙ both (list_all is_quiet word) (list_all is_quiet (58 ∷ value_part octets)) (weaker is_plain is_quiet word
    plain_quiet h) (value_quiet octets)
