-- The kinds of each type after those of one type were set.
use Rattle.std.proofs.Common.{◌≡◌, ℕ, zero, suc, ◌<◌, Bool, true, false, cond, List, [], ◌∷◌, length, get_or, Some, refl, sym, ap, ◌∙◌, subst, nat_eq, arith, slice_set}
use Rattle.std.specs.List.{slice_get}
use Rattle.std.proofs.lemmas.Bool.{eqb-true, eq-eqb}
use Rattle.index_choice.specs.declared.kinds.Kinds.{Kinds}
use Rattle.index_choice.specs.Choice.{kinds_of, kinds_or_none}

set_here : (ks : List Kinds) (n : ℕ) (k : Kinds) → n < length ks → slice_get (slice_set ks n k) n ≡ Some k
set_here [] n k l = absurd (omega arith)
set_here (x ∷ ks) zero k l = refl
set_here (x ∷ ks) (suc n) k l = set_here ks n k (omega arith)

set_else : (ks : List Kinds) (n t : ℕ) (k : Kinds) → (n ≡ t → ⊥) → slice_get (slice_set ks n k) t ≡ slice_get ks t
set_else [] n t k h = refl
set_else (x ∷ ks) zero zero k h = absurd (h refl)
set_else (x ∷ ks) zero (suc t) k h = refl
set_else (x ∷ ks) (suc n) zero k h = refl
set_else (x ∷ ks) (suc n) (suc t) k h = set_else ks n t k (λ e. h (ap suc e))

get_here : (ks : List Kinds) (n : ℕ) (d : Kinds) → n < length ks → slice_get ks n ≡ Some (get_or ks n d)
get_here [] n d l = absurd (omega arith)
get_here (x ∷ ks) zero d l = refl
get_here (x ∷ ks) (suc n) d l = get_here ks n d (omega arith)

-- the kinds at a number, as an index reads them
pub kinds_here : (ks : List Kinds) (n : ℕ) (k : Kinds) → n < length ks → k ≡ get_or ks n k → kinds_of ks n ≡ k
kinds_here ks n k l e = ap kinds_or_none (get_here ks n k l) ∙ sym e

pub kinds_set : (ks : List Kinds) (n t : ℕ) (k : Kinds) → n < length ks → kinds_of (slice_set ks n k) t ≡
    cond (nat_eq n t) k (kinds_of ks t)
kinds_set ks n t k l = pick (nat_eq n t) refl
  where
    pick : (b : Bool) → nat_eq n t ≡ b → kinds_of (slice_set ks n k) t ≡ cond b k (kinds_of ks t)
    pick true e = subst (λ (u : ℕ). kinds_of (slice_set ks n k) u ≡ k) (eqb-true n t e)
        (ap kinds_or_none (set_here ks n k l))
    pick false e = ap kinds_or_none (set_else ks n t k (λ h. differ h))
      where
        differ : n ≡ t → ⊥
        differ h = let w : nat_eq n t ≡ true = eq-eqb n t h in cc

-- what is joined at the number is joined at every type that has it
pub at_type : {X : Type 0} (n t : ℕ) (f : ℕ → X) (x : X) → cond (nat_eq n t) (f n) x ≡ cond (nat_eq n t) (f t) x
at_type n t f x = pick (nat_eq n t) refl
  where
    pick : (b : Bool) → nat_eq n t ≡ b → cond b (f n) x ≡ cond b (f t) x
    pick true e = ap f (eqb-true n t e)
    pick false e = refl
