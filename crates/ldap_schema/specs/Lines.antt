-- Classes in line (RFC 4512 2.4.2), and the ranks by which they are put in order.
use Rattle.std.specs.Prelude.{ℕ, List, [], ◌∷◌, Bool, ◌||◌, Option, None, Some, filter, get_or}
use Rattle.std.specs.List.{list_all}

-- of two classes one is under the other
abbrev pub is_either_under : (ℕ → ℕ → Bool) → ℕ → ℕ → Bool
is_either_under under a b = under a b || under b a

-- each two of the classes are in line
abbrev pub are_all_in_line : (ℕ → ℕ → Bool) → List ℕ → Bool
are_all_in_line under cs = list_all (λ a. list_all (is_either_under under a) cs) cs

-- the first class; none, where there is none
abbrev pub first_of : List ℕ → Option ℕ
first_of [] = None
first_of (c ∷ cs) = Some c

-- the first of these classes that is under all the others
abbrev pub lowest_in : (ℕ → ℕ → Bool) → List ℕ → List ℕ → Option ℕ
lowest_in under cs others = first_of (filter (λ c. list_all (under c) others) cs)

-- the rank of a class
abbrev pub rank_in : List ℕ → ℕ → ℕ
rank_in ranks c = get_or ranks c 0
