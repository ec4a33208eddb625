-- Marked elements.
use Rattle.std.proofs.Common.{List, [], ◌∷◌, Bool, true, false, ◌≡◌, refl, ap, map}
use Rattle.value_parts.specs.Picked.{picked}

pub map_picked : {A B : Type 0} (f : A → B) (ms : List Bool) (xs : List A) → map f (picked ms xs) ≡ picked ms (map f xs)
map_picked f ms [] = refl
map_picked f [] (x ∷ xs) = refl
map_picked f (true ∷ ms) (x ∷ xs) = ap (λ (ys : List _). f x ∷ ys) (map_picked f ms xs)
map_picked f (false ∷ ms) (x ∷ xs) = map_picked f ms xs
