-- Rising lists seen as one: what contracts that aren't public say of it.
-- What public contracts say is in specs/Streams.
use Rattle.std.specs.Prelude.{◌≡◌, ℕ, ◌≤◌, List, [], ◌∷◌, Bool, true, false, cond, nat_eq, nat_lt, Option, None, Some}
use Rattle.std.specs.List.{list_any, AllByRecursion}
use Rattle.dir_index.specs.Postings.{has_number}

-- a list without this number at its head
abbrev pub behind : ℕ → List ℕ → List ℕ
behind n [] = []
behind n (x ∷ xs) = cond (nat_eq x n) xs (x ∷ xs)

-- whether a list begins with this number
abbrev pub begins_with : ℕ → List ℕ → Bool
begins_with n [] = false
begins_with n (x ∷ xs) = nat_eq n x

-- a list begins with no number below this one
abbrev pub BeginsFrom : ℕ → List ℕ → Type 0
BeginsFrom n [] = Unit {0}
BeginsFrom n (x ∷ xs) = n ≤ x

-- the smallest number that some list begins with; none, where all lists are empty
abbrev pub IsLeastHead : Option ℕ → List (List ℕ) → Type 0
IsLeastHead None ls = AllByRecursion (λ xs. xs ≡ []) ls
IsLeastHead (Some n) ls = (list_any (begins_with n) ls ≡ true) × AllByRecursion (BeginsFrom n) ls

-- the smaller of a number and a list's head
abbrev pub lesser : Option ℕ → List ℕ → Option ℕ
lesser best [] = best
lesser None (x ∷ xs) = Some x
lesser (Some n) (x ∷ xs) = cond (nat_lt x n) (Some x) (Some n)

-- Lists that have all that some lists had, and each number of the scope that passes.
pub record Gathers (passes : ℕ → Bool) (scope : List ℕ) (before after : List (List ℕ)) : Type 0 where
  pub keeps : (n : ℕ) → list_any (has_number n) before ≡ true → list_any (has_number n) after ≡ true
  pub covers : (n : ℕ) → has_number n scope ≡ true → passes n ≡ true → list_any (has_number n) after ≡ true

-- lists that have all that some lists had, and these numbers
abbrev pub GathersAll : List ℕ → List (List ℕ) → List (List ℕ) → Type 0
GathersAll ns before after = (scope : List ℕ) → Gathers (λ n. has_number n ns) scope before after
