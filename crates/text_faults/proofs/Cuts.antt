-- A word that is cut, of its first characters and one more.
use Rattle.std.proofs.Common.{◌≡◌, ◌++◌, ℕ, ◌+◌, ◌<◌, List, true, false, nat_lt, codes, chars, flat_map, length, take, refl, ap, arith}
use Rattle.std.proofs.lemmas.Bool.Decides.{nat_tests}
use Rattle.std.proofs.lemmas.Str.{IsUtf8-from_is_utf8, is_utf8-from_IsUtf8}
use Rattle.std.proofs.lemmas.List.{take_all, take-take, length-take}
use Rattle.std.specs.Str.{IsUtf8, is_utf8}
use Rattle.text_faults.specs.Words.{character_shown, raw_octet_shown, cut, word_shown}

longer : (limit : ℕ) (show : ℕ → List ℕ) (xs : List ℕ) → nat_lt limit (length xs) ≡ true
    → cut limit show (take (limit + 1) xs) ≡ cut limit show xs
longer limit show xs e =
    let above : nat_lt limit (length (take (limit + 1) xs)) ≡ true =
    grind (arith, nat_tests, length-take (limit + 1) xs, e) in
    rw (e, above) (ap (λ x. flat_map show x ++ codes "..") (take-take limit (limit + 1) xs (omega arith)))

shorter : (limit : ℕ) (show : ℕ → List ℕ) (xs : List ℕ) → nat_lt limit (length xs) ≡ false
    → cut limit show (take (limit + 1) xs) ≡ cut limit show xs
shorter limit show xs e =
    let above : ¬ (limit < length xs) = grind (arith, nat_tests, e) in
    ap (cut limit show) (take_all (limit + 1) xs (omega arith))

-- of more characters than are shown one more shows it
pub cut_front : (limit : ℕ) (show : ℕ → List ℕ) (xs : List ℕ)
    → cut limit show (take (limit + 1) xs) ≡ cut limit show xs
cut_front limit show xs =
    elim (nat_lt limit (length xs)) as (λ b. nat_lt limit (length xs) ≡ b
    → cut limit show (take (limit + 1) xs) ≡ cut limit show xs)
    [ true ↦ λ e. longer limit show xs e | false ↦ λ e. shorter limit show xs e ] refl

-- a text is shown by its characters
pub text_word : (octets : List ℕ) → IsUtf8 octets → word_shown octets ≡ cut 64 character_shown (chars octets)
text_word octets text = rw (is_utf8-from_IsUtf8 octets text) refl

-- what is no text is shown by its octets
pub octets_word : (octets : List ℕ) → ¬ (IsUtf8 octets) → word_shown octets ≡ cut 64 raw_octet_shown octets
octets_word octets none =
    elim (is_utf8 octets) as (λ b. is_utf8 octets ≡ b → word_shown octets ≡ cut 64 raw_octet_shown octets)
    [ true ↦ λ e. absurd (none (IsUtf8-from_is_utf8 octets e)) | false ↦ λ e. rw e refl ] refl
