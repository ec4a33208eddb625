-- Selectors one after another.
use Rattle.std.proofs.Common.{◌≡◌, ◌<◌, ◌||◌, ℕ, zero, suc, Bool, true, List, [], ◌∷◌, length, map, ap, ◌∙◌, subst, refl, slice_index_or, string_bytes, String, Global, arith}
use Rattle.std.specs.List.{list_any}
use Rattle.std.specs.Prelude.{◌↔◌}
use Rattle.std.specs.Bool.{IsTrue}
use Rattle.std.specs.Str.{bytes_eq}
use Rattle.std.proofs.lemmas.Bool.{or_right}
use Rattle.std.proofs.lemmas.Bool.Decides.{same_from_decides}
use Rattle.std.proofs.lemmas.Slice.Eq.{bytes_eq-Decides}

-- some selector passes, at some place
pub some_at : (p : List ℕ → Bool) (xs : List (String Global)) (i : ℕ) (x : String Global) → i < length xs →
    x ≡ slice_index_or xs i x → p (string_bytes x) ≡ true → list_any p (map string_bytes xs) ≡ true
some_at p [] i x lt is passes = absurd (omega arith)
some_at p (y ∷ xs) zero x lt is passes =
    let here : p (string_bytes y) ≡ true = subst (λ (z : String Global). p (string_bytes z) ≡ true) is passes in
    ap (λ (b : Bool). b || list_any p (map string_bytes xs)) here
some_at p (y ∷ xs) (suc i) x lt is passes =
    ap (λ (b : Bool). p (string_bytes y) || b) (some_at p xs i x (omega (arith, lt)) is passes)
    ∙ or_right (p (string_bytes y)) true refl

-- a test of two lists of octets
pub same_test : (r : Bool) (a b : List ℕ) → (IsTrue r ↔ (a ≡ b)) → r ≡ bytes_eq a b
same_test r a b h = same_from_decides r (bytes_eq a b) h (bytes_eq-Decides a b)
