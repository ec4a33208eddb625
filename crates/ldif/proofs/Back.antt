-- LDIF: a line that is written says what it was written of.
use Rattle.std.proofs.Common.{◌≡◌, ℕ, ◌+◌, ◌<◌, List, [], ◌∷◌, ◌++◌, length, drop, position, Bool, true, false, cond, not, ◌&&◌, ◌||◌, None, Some, nat_eq, nat_lt, refl, sym, ap, ◌∙◌, arith, length-append, append_assoc}
use Rattle.std.specs.Prelude.{slice_index}
use Rattle.std.specs.List.{list_all, position_or_len}
use Rattle.std.specs.Result.{result_ok}
use Rattle.std.proofs.lemmas.Bool.{ltb-true, lt-ltb}
use Rattle.std.proofs.lemmas.List.{take_at, drop_at}
use Rattle.base64.specs.Engines.{standard}
use Rattle.base64.specs.GeneralPurpose.{encode_of, decode_of, IsBytes}
use Rattle.base64.proofs.EngineFacts.{decode_of-encode_of}
use Rattle.ldif.specs.Written.{is_safe_first, is_safe_octet, is_safe, ends_with_space, value_part, pair_line}
use Rattle.ldif.specs.Says.{comment, past_spaces, is_encoded, octets_of, pair_says, colon_says, unlike_comment, line_says, wrong}
use Rattle.ldif.specs.declared.fault.LdifCause.TheVariants.{ContinuesNothing}
use Rattle.ldif.specs.RoundTrip.{are_octets}
use Rattle.ldif.proofs.Booleans.{left, right}
use Rattle.ldif.proofs.Plain.{is_plain}
use Rattle.ldif.proofs.Quiet.{is_symbol, encoded_symbols, passes_at, not_true, unlike, flip}

bytes : (v : List ℕ) → are_octets v ≡ true → IsBytes v
bytes v h i = ltb-true (slice_index v i) 256 (passes_at (λ c. nat_lt c 256) v i refl h)

-- ---- the octets behind the colon

or_left : (a b : Bool) → (a || b) ≡ false → a ≡ false
or_left true b h = absurd cc
or_left false b h = refl

safe_no_space : (c : ℕ) → is_safe_first c ≡ true → nat_eq c 32 ≡ false
safe_no_space c h = or_left (nat_eq c 32) (nat_eq c 58) (or_left (nat_eq c 32 || nat_eq c 58) (nat_eq c 60)
    (not_true (nat_eq c 32 || nat_eq c 58 || nat_eq c 60) h))

stands : (c : ℕ) (cs : List ℕ) → nat_eq c 32 ≡ false → past_spaces (c ∷ cs) ≡ c ∷ cs
stands c cs e = ap (λ b. cond b (past_spaces cs) (c ∷ cs)) e

symbols_stand : (v : List ℕ) → list_all is_symbol v ≡ true → past_spaces v ≡ v
symbols_stand [] h = refl
symbols_stand (c ∷ cs) h =
    stands c cs (not_true (nat_eq c 32) (right (not (nat_eq 10 c) && not (nat_eq c 13)) (not (nat_eq c 32))
    (left (is_symbol c) (list_all is_symbol cs) h)))

part_back : (b : Bool) (c : ℕ) (cs : List ℕ) → is_safe (c ∷ cs) ≡ b → are_octets (c ∷ cs) ≡ true
    → octets_of (cond b (32 ∷ c ∷ cs) (58 ∷ 32 ∷ encode_of standard (c ∷ cs))) ≡ Some (c ∷ cs)
part_back true c cs e h =
    ap Some (stands c cs (safe_no_space c (left (is_safe_first c) (list_all is_safe_octet (c ∷ cs))
    (left (is_safe_first c && list_all is_safe_octet (c ∷ cs)) (not (ends_with_space (c ∷ cs))) e))))
part_back false c cs e h =
    ap (λ v. result_ok (decode_of standard v)) (symbols_stand (encode_of standard (c ∷ cs)) (encoded_symbols (c ∷ cs)))
    ∙ ap result_ok (decode_of-encode_of standard (c ∷ cs) refl (bytes (c ∷ cs) h))

value_back : (octets : List ℕ) → are_octets octets ≡ true → octets_of (value_part octets) ≡ Some octets
value_back [] h = refl
value_back (c ∷ cs) h = part_back (is_safe (c ∷ cs)) c cs refl h

-- ---- the first colon

colon_len : (w part : List ℕ) → list_all is_plain w ≡ true → position_or_len (nat_eq 58) (w ++ 58 ∷ part) ≡ length w
colon_len [] part h = refl
colon_len (c ∷ cs) part h =
    ap (λ b. cond (not b) (1 + position_or_len (nat_eq 58) (cs ++ 58 ∷ part)) 0)
    (unlike 58 c refl (left (is_plain c) (list_all is_plain cs) h))
    ∙ ap (λ n. 1 + n) (colon_len cs part (right (is_plain c) (list_all is_plain cs) h)) ∙ omega arith

longer : (w part : List ℕ) → length w < length (w ++ 58 ∷ part)
longer w part = omega (arith, length-append w (58 ∷ part))

colon_at : (w part : List ℕ) → list_all is_plain w ≡ true → position (nat_eq 58) (w ++ 58 ∷ part) ≡ Some (length w)
colon_at w part h =
    ap (λ n. cond (nat_lt n (length (w ++ 58 ∷ part))) (Some n) None) (colon_len w part h)
    ∙ ap (λ b. cond b (Some (length w)) None) (lt-ltb (length w) (length (w ++ 58 ∷ part)) (longer w part))

behind : (w part : List ℕ) → drop (length w + 1) (w ++ 58 ∷ part) ≡ part
behind w part =
    ap (drop (length w + 1)) (sym (append_assoc w (58 ∷ []) part))
    ∙ drop_at (w ++ 58 ∷ []) part (length w + 1) (length-append w (58 ∷ []) ∙ omega arith)

colon_back : (w octets : List ℕ) → list_all is_plain w ≡ true → are_octets octets ≡ true →
    colon_says (pair_line w octets) (position (nat_eq 58) (pair_line w octets)) ≡
    pair_says (is_encoded (value_part octets)) w (Some octets)
colon_back w octets h o =
    ap (colon_says (pair_line w octets)) (colon_at w (value_part octets) h)
    ∙ ap (λ v. pair_says (is_encoded (drop (length w + 1) (pair_line w octets))) v
    (octets_of (drop (length w + 1) (pair_line w octets)))) (take_at w (58 ∷ value_part octets) (length w) refl)
    ∙ ap (λ v. pair_says (is_encoded v) w (octets_of v)) (behind w (value_part octets))
    ∙ ap (pair_says (is_encoded (value_part octets)) w) (value_back octets o)

-- a line of a type and a value says them
pub pair_back : (c : ℕ) (cs octets : List ℕ) → list_all is_plain (c ∷ cs) ≡ true → are_octets octets ≡ true →
    line_says (pair_line (c ∷ cs) octets) ≡ pair_says (is_encoded (value_part octets)) (c ∷ cs) (Some octets)
pair_back c cs octets h o =
    ap (λ b. cond b comment (unlike_comment (pair_line (c ∷ cs) octets)))
    (flip 35 c (unlike 35 c refl (left (is_plain c) (list_all is_plain cs) h)))
    ∙ ap (λ b. cond b (wrong ContinuesNothing) (colon_says (pair_line (c ∷ cs) octets)
    (position (nat_eq 58) (pair_line (c ∷ cs) octets))))
    (flip 32 c (unlike 32 c refl (left (is_plain c) (list_all is_plain cs) h)))
    ∙ colon_back (c ∷ cs) octets h o
