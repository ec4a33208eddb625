-- Octets that are put one behind the other.
use Rattle.std.proofs.Common.{◌≡◌, ℕ, List, [], ◌∷◌, ◌++◌, ap, ap₂, ◌∙◌, append_assoc}
use Rattle.log_journal.specs.Fields.{numeral, sum_of}

-- five, behind what stood there
pub five : (o a b c d e p q r s t : List ℕ) → p ≡ o ++ a → q ≡ p ++ b → r ≡ q ++ c → s ≡ r ++ d → t ≡ s ++ e →
    t ≡ o ++ (a ++ (b ++ (c ++ (d ++ e))))
five o a b c d e p q r s t hp hq hr hs ht =
    ht ∙ ap (λ (x : List ℕ). x ++ e) (hs ∙ ap (λ (x : List ℕ). x ++ d) (hr ∙ ap (λ (x : List ℕ). x ++ c)
    (hq ∙ ap (λ (x : List ℕ). x ++ b) hp))) ∙ simp append_assoc

-- a kind, numbers and what follows
pub three : (kind : ℕ) (n rest p q r : List ℕ) → p ≡ kind ∷ [] → q ≡ p ++ n → r ≡ q ++ rest → r ≡ kind ∷ (n ++ rest)
three kind n rest p q r hp hq hr = hr ∙ ap (λ (x : List ℕ). x ++ rest) (hq ∙ ap (λ (x : List ℕ). x ++ n) hp)

-- octets and their sum
pub summed : (sum : ℕ) (body p q : List ℕ) → p ≡ body → sum ≡ sum_of p → q ≡ p ++ numeral sum →
    q ≡ body ++ numeral (sum_of body)
summed sum body p q hp hs hq = hq ∙ ap₂ (λ (x : List ℕ) (s : ℕ). x ++ numeral s) hp (hs ∙ ap sum_of hp)
