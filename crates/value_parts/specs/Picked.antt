-- Elements that are marked.
use Rattle.std.specs.Prelude.{List, [], ◌∷◌, Bool, cond}

-- the elements that are marked
abbrev pub picked : {A : Type 0} → List Bool → List A → List A
picked ms [] = []
picked [] (x ∷ xs) = []
picked (m ∷ ms) (x ∷ xs) = cond m (x ∷ picked ms xs) (picked ms xs)
