-- Keys of parts, one by one, as the loop makes them.
use Rattle.std.proofs.Common.{ℕ, ◌+◌, ◌<◌, zero, suc, add-one, List, [], ◌∷◌, ◌++◌, Option, None, Some, ◌≡◌, refl, ap, ap₂, sym, ◌∙◌, map, length, drop, get_or, arith}
use Rattle.std.proofs.lemmas.List.{append-nil}
use Rattle.ldap_match.specs.Item.{each_by}

-- what the loop has made: with keys of what is left they are keys of all, and where what is left has none all have none
pub record KeysSoFar (f : List ℕ → Option (List ℕ)) (all keys rest : List (List ℕ)) : Type 0 where
  pub behind : (xs : List (List ℕ)) → each_by f rest ≡ Some xs → each_by f all ≡ Some (keys ++ xs)
  pub ahead : each_by f rest ≡ None → each_by f all ≡ None

left_more : {A : Type 0} (g : A → List ℕ) (xs : List A) (i : ℕ) (x : A) → i < length xs → map g (drop i xs) ≡
    g (get_or xs i x) ∷ map g (drop (suc i) xs)
left_more g [] i x lt = absurd (omega (arith, lt))
left_more g (y ∷ xs) zero x lt = refl
left_more g (y ∷ xs) (suc i) x lt = left_more g xs i x (omega (arith, lt))

-- what is left begins with this one
pub left_is : {A : Type 0} (g : A → List ℕ) (xs : List A) (i : ℕ) (x : A) → i < length xs → x ≡ get_or xs i x →
    map g (drop i xs) ≡ g x ∷ map g (drop (i + 1) xs)
left_is g xs i x lt is = left_more g xs i x lt ∙ ap₂ (λ (y : List ℕ) (n : ℕ). y ∷ map g (drop n xs)) (ap g (sym is))
    (sym (add-one i))

pub all_keys : (f : List ℕ → Option (List ℕ)) (all keys rest : List (List ℕ)) → KeysSoFar f all keys rest →
    rest ≡ [] → each_by f all ≡ Some keys
all_keys f all keys rest so_far e = so_far.behind [] (ap (each_by f) e) ∙ ap Some (append-nil keys)
