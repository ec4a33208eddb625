-- The order of octets, and what it says of their equality.
use Rattle.std.proofs.Common.{ℕ, zero, suc, ◌<◌, List, [], ◌∷◌, true, false, ◌≡◌, refl, ap, sym, ◌∙◌, length, get_or, drop, map, arith}
use Rattle.std.specs.List.{AllByRecursion}
use Rattle.std.specs.Ordering.{is_eq, ordering_reverse}
use Rattle.std.specs.declared.cmp.Ordering.TheVariants.{Less, Equal, Greater}
use Rattle.std.specs.Str.{bytes_eq}
use Rattle.std.proofs.lemmas.Cmp.{nat_list_cmp_total, tied_back}
use Rattle.std.proofs.lemmas.Map.Text.{is_eq-slice_cmp}
use Rattle.ldap_words.specs.NameOrder.{order}

-- what holds of each element holds of the one at a place
pub all_at : {X : Type 0} (P : X → Type 0) (xs : List X) (j : ℕ) (d : X) → j < length xs → AllByRecursion P xs →
    P (get_or xs j d)
all_at P [] j d lt h = absurd (omega (arith, lt))
all_at P (x ∷ xs) zero d lt h = h.0
all_at P (x ∷ xs) (suc j) d lt h = all_at P xs j d (omega (arith, lt)) h.1

pub turned : (a b : List ℕ) → order a b ≡ Less → order b a ≡ Greater
turned a b h = nat_list_cmp_total.antisymm b a ∙ ap ordering_reverse h

pub turned_back : (a b : List ℕ) → order a b ≡ Greater → order b a ≡ Less
turned_back a b h = nat_list_cmp_total.antisymm b a ∙ ap ordering_reverse h

pub same_is : (a b : List ℕ) → order a b ≡ Equal → bytes_eq b a ≡ true
same_is a b h = sym (is_eq-slice_cmp b a) ∙ ap is_eq (tied_back nat_list_cmp_total a b h)

pub other_is : (a b : List ℕ) → order a b ≡ Less → bytes_eq b a ≡ false
other_is a b h = sym (is_eq-slice_cmp b a) ∙ ap is_eq (turned a b h)

pub above_is : (a b : List ℕ) → order a b ≡ Greater → bytes_eq b a ≡ false
above_is a b h = sym (is_eq-slice_cmp b a) ∙ ap is_eq (turned_back a b h)

-- octets that go on are behind those that have ended
goes_on : (kept : List ℕ) (i : ℕ) → i < length kept → Greater ≡ order (drop i kept) []
goes_on [] i lt = absurd (omega (arith, lt))
goes_on (x ∷ kept) zero lt = refl
goes_on (x ∷ kept) (suc i) lt = goes_on kept i (omega (arith, lt))

ended : (rest : List ℕ) → length rest ≡ 0 → rest ≡ []
ended [] h = refl
ended (x ∷ rest) h = absurd (omega (arith, h))

pub longer : (kept rest : List ℕ) (i : ℕ) (f : ℕ → ℕ) → i < length kept → length rest ≡ 0 →
    Greater ≡ order (drop i kept) (map f rest)
longer kept rest i f lt h = goes_on kept i lt ∙ ap (λ (r : List ℕ). order (drop i kept) (map f r)) (sym (ended rest h))
