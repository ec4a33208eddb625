-- Filter texts, reading: fronts pass their test, and the octets of names are ASCII.
use Rattle.std.proofs.Common.{◌≡◌, ℕ, ◌+◌, ◌<◌, List, [], ◌∷◌, take, suc, length, get_or, Bool, true, false, cond, ◌&&◌, ◌||◌, nat_eq, nat_le, refl, sym, ap, ◌∙◌, arith}
use Rattle.std.specs.List.{list_all, prefix_len}
use Rattle.std.proofs.lemmas.Bool.{eqb-true, leb-true}
use Rattle.std.proofs.lemmas.List.Folds.{list_all_at}
use Rattle.filter_text.specs.Descriptions.{is_alpha, is_key_octet}
use Rattle.filter_text.specs.private.Cuts.{is_name_octet, front}
use Rattle.filter_text.proofs.Booleans.{right, both, either}
use Rattle.filter_text.proofs.Machines.{false_true}

passes_at : (b : Bool) (p : ℕ → Bool) (c : ℕ) (cs : List ℕ) → p c ≡ b → list_all p (take (prefix_len p cs) cs) ≡
    true → list_all p (take (cond b (1 + prefix_len p cs) 0) (c ∷ cs)) ≡ true
passes_at true p c cs e h =
    let n : 1 + prefix_len p cs ≡ suc (prefix_len p cs) = omega arith in
    ap (λ k. list_all p (take k (c ∷ cs))) n ∙ both (p c) (list_all p (take (prefix_len p cs) cs)) e h
passes_at false p c cs e h = refl

front_passes : (p : ℕ → Bool) (text : List ℕ) → list_all p (front p text) ≡ true
front_passes p [] = refl
front_passes p (c ∷ cs) = passes_at (p c) p c cs refl (front_passes p cs)

pub names_front : (n : ℕ) (text : List ℕ) → n ≡ prefix_len is_name_octet text → list_all is_name_octet (take n text) ≡
    true
names_front n text e = ap (λ k. list_all is_name_octet (take k text)) e ∙ front_passes is_name_octet text

letter_small : (c : ℕ) → is_alpha c ≡ true → c < 128
letter_small c h =
    either (nat_le 65 c && nat_le c 90) (nat_le 97 c && nat_le c 122) h
    (λ g. let x = leb-true c 90 (right (nat_le 65 c) (nat_le c 90) g) in omega (arith, x))
    (λ g. let x = leb-true c 122 (right (nat_le 97 c) (nat_le c 122) g) in omega (arith, x))

is_small : (c k : ℕ) → nat_eq c k ≡ true → k < 128 → c < 128
is_small c k e l = let x = eqb-true c k e in omega (arith, x, l)

key_small : (c : ℕ) → is_key_octet c ≡ true → c < 128
key_small c h =
    either (is_alpha c || (nat_le 48 c && nat_le c 57)) (nat_eq c 45) h
    (λ g. either (is_alpha c) (nat_le 48 c && nat_le c 57) g (letter_small c)
    (λ f. let x = leb-true c 57 (right (nat_le 48 c) (nat_le c 57) f) in omega (arith, x)))
    (λ g. is_small c 45 g (omega arith))

name_small : (c : ℕ) → is_name_octet c ≡ true → c < 128
name_small c h =
    either (is_key_octet c || nat_eq c 46) (nat_eq c 59) h
    (λ g. either (is_key_octet c) (nat_eq c 46) g (key_small c) (λ f. is_small c 46 f (omega arith)))
    (λ g. is_small c 59 g (omega arith))

name_at : (b : Bool) (xs : List ℕ) (i : ℕ) → i < length xs → list_all is_name_octet xs ≡ true →
    is_name_octet (get_or xs i 0) ≡ b → b ≡ true
name_at true xs i l h e = refl
name_at false xs i l h e = absurd (false_true (sym (list_all_at is_name_octet xs i 0 l e) ∙ h))

pub names_small : (xs : List ℕ) (i : ℕ) → i < length xs → list_all is_name_octet xs ≡ true → get_or xs i 0 < 128
names_small xs i l h = name_small (get_or xs i 0) (name_at (is_name_octet (get_or xs i 0)) xs i l h refl)
