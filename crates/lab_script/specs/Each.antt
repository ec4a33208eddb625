-- A list whose elements each say something.
use Rattle.std.specs.Prelude.{List, [], ◌∷◌, Option, None, Some}

-- one more in front, where both are there
abbrev pub before : {A : Type 0} → Option A → Option (List A) → Option (List A)
before (Some x) (Some xs) = Some (x ∷ xs)
before (Some x) None = None
before None xs = None

-- What each of these says, if each says something.
abbrev pub all_of : {A B : Type 0} → (A → Option B) → List A → Option (List B)
all_of f [] = Some []
all_of f (x ∷ xs) = before (f x) (all_of f xs)
