-- Comparisons, either way round.
use Rattle.std.proofs.Common.{ℕ, List, [], ◌∷◌, Bool, true, false, ◌||◌, ◌≡◌, refl, ap, sym, ◌∙◌}
use Rattle.std.specs.List.{list_any}
use Rattle.std.specs.Str.{bytes_eq}
use Rattle.std.proofs.lemmas.Slice.Eq.{bytes_eq-Decides}

both_ways : (a b : Bool) → (a ≡ true → b ≡ true) → (b ≡ true → a ≡ true) → a ≡ b
both_ways true true f g = refl
both_ways true false f g = sym (f refl)
both_ways false true f g = g refl
both_ways false false f g = refl

-- octets are compared either way round
pub turned : (k l : List ℕ) → bytes_eq k l ≡ bytes_eq l k
turned k l = both_ways (bytes_eq k l) (bytes_eq l k) (λ h. (bytes_eq-Decides l k).1
    (sym ((bytes_eq-Decides k l).0 h))) (λ h. (bytes_eq-Decides k l).1 (sym ((bytes_eq-Decides l k).0 h)))

pub any_flipped : {A : Type 0} (eq : A → A → Bool) (symm : (x y : A) → eq x y ≡ eq y x) (y : A) (xs : List A) →
    list_any (λ x. eq x y) xs ≡ list_any (eq y) xs
any_flipped eq symm y [] = refl
any_flipped eq symm y (x ∷ xs) = ap (λ (b : Bool). b || list_any (λ x. eq x y) xs) (symm x y)
    ∙ ap (λ (b : Bool). eq y x || b) (any_flipped eq symm y xs)
