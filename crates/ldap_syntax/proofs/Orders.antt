-- The order of lists by their first elements.
use Rattle.std.proofs.Common.{ℕ, ◌<◌, List, [], ◌∷◌, ◌++◌, ◌≡◌, refl, ap, ◌∙◌, arith}
use Rattle.std.proofs.lemmas.Bool.Decides.{nat_tests}
use Rattle.std.proofs.lemmas.Cmp.{same_from_slice_cmp}
use Rattle.std.proofs.lemmas.Map.Text.{is_eq-slice_cmp}
use Rattle.std.specs.Str.{bytes_eq}
use Rattle.std.specs.Ordering.{nat_cmp, ordering_then, is_lt, is_eq}
use Rattle.std.specs.Cmp.{nat_cmp_is}
use Rattle.std.specs.Cmp.Lexicographic.{slice_cmp}
use Rattle.std.specs.declared.cmp.Ordering.{Ordering}
use Rattle.std.specs.declared.cmp.Ordering.TheVariants.{Less, Equal}
use Rattle.ldap_syntax.specs.Meaning.{is_before}

pub less_first : (x y : ℕ) (xs ys : List ℕ) → x < y → Less ≡ slice_cmp nat_cmp (x ∷ xs) (y ∷ ys)
less_first x y xs ys h = ap (λ (r : Ordering). ordering_then r (slice_cmp nat_cmp xs ys)) (nat_cmp_is x y Less h)

pub same_first : (x y : ℕ) (xs ys : List ℕ) → x ≡ y → slice_cmp nat_cmp xs ys ≡ slice_cmp nat_cmp (x ∷ xs) (y ∷ ys)
same_first x y xs ys h = ap (λ (r : Ordering). ordering_then r (slice_cmp nat_cmp xs ys)) (nat_cmp_is x y Equal h)

-- the order tells which is before, and which are the same
pub before_is : (w k : List ℕ) → is_lt (slice_cmp nat_cmp w k) ≡ is_before w k
before_is w k = same_from_slice_cmp nat_cmp is_lt is_before refl (λ _ _. refl) (λ _ _. refl)
    (λ x y xs ys o h. grind (arith, nat_tests)) w k (slice_cmp nat_cmp w k) refl

pub same_is : (w k : List ℕ) → is_eq (slice_cmp nat_cmp w k) ≡ bytes_eq w k
same_is w k = is_eq-slice_cmp w k

-- one front before both
pub same_front : (w xs ys : List ℕ) → slice_cmp nat_cmp xs ys ≡ slice_cmp nat_cmp (w ++ xs) (w ++ ys)
same_front [] xs ys = refl
same_front (c ∷ w) xs ys = same_front w xs ys ∙ same_first c c (w ++ xs) (w ++ ys) refl
