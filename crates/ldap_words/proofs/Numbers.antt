-- Numbers, digit by digit.
use Rattle.std.proofs.Common.{◌≡◌, ℕ, suc, ◌+◌, ◌<◌, List, [], ◌∷◌, length, drop, get_or, Option, Some, None, refl, sym, ap, ◌∙◌, arith, add-one, drop-cons}
use Rattle.ldap_words.specs.Numbers.{number_after, number_of_digits, with_digit}

-- what is no number stays none
no_number : (bs : List ℕ) → number_after None bs ≡ None
no_number [] = refl
no_number (b ∷ bs) = no_number bs

-- one more digit
pub digit_more : (text : List ℕ) (n i m b : ℕ) (all : Option ℕ) → number_after (Some n) (drop i text) ≡ all →
    i < length text → b ≡ get_or text i b → Some m ≡ with_digit n b → number_after (Some m) (drop (i + 1) text) ≡ all
digit_more text n i m b all h lt e is =
    ap (λ o. number_after o (drop (i + 1) text)) (is ∙ ap (with_digit n) e)
    ∙ ap (λ (k : ℕ). number_after (with_digit n (get_or text i b)) (drop k text)) (add-one i)
    ∙ sym (ap (number_after (Some n)) (drop-cons text i b lt)) ∙ h

-- a text that isn't empty
pub number_is : (text : List ℕ) → (0 < length text) → number_after (Some 0) text ≡ number_of_digits text
number_is [] h = absurd (omega arith)
number_is (b ∷ bs) h = refl

-- a text with what is no digit, or one too many
pub digit_none : (text : List ℕ) (n i : ℕ) → number_after (Some n) (drop i text) ≡ number_after (Some 0) text →
    i < length text → None ≡ with_digit n (get_or text i 0) → None ≡ number_of_digits text
digit_none text n i h lt is =
    sym (no_number (drop (suc i) text)) ∙ ap (λ o. number_after o (drop (suc i) text)) is
    ∙ sym (ap (number_after (Some n)) (drop-cons text i 0 lt)) ∙ h ∙ number_is text (omega arith)
