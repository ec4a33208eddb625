-- Tables, as a row and the rows behind it.
use Rattle.std.proofs.Common.{Bool, true, false, cond, ◌≡◌, refl}

-- the row that is asked for
pub first : {A : Type 0} (asked : Bool) (row rest : A) → true ≡ asked → row ≡ cond asked row rest
first true row rest e = refl
first false row rest e = absurd (cc)

-- a row that isn't
pub later : {A : Type 0} {found : A} (asked : Bool) (row rest : A) → false ≡ asked → found ≡ rest →
    found ≡ cond asked row rest
later true row rest e h = absurd (cc)
later false row rest e h = h
