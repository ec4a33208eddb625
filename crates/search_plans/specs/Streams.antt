-- Rising lists seen as one.
use Rattle.std.specs.Prelude.{◌≡◌, ℕ, List, [], ◌∷◌, Bool, true, cond, nat_eq, nat_lt, ◌&&◌, filter}
use Rattle.dir_index.specs.Postings.{has_number}

-- a rising list with one more number
abbrev pub put : ℕ → List ℕ → List ℕ
put n [] = n ∷ []
put n (x ∷ xs) = cond (nat_lt n x) (n ∷ x ∷ xs) (cond (nat_eq n x) (x ∷ xs) (x ∷ put n xs))

-- a rising list with more numbers
abbrev pub put_all : List ℕ → List ℕ → List ℕ
put_all [] ys = ys
put_all (x ∷ xs) ys = put x (put_all xs ys)

-- the numbers that stand in any of the lists, each once, rising
abbrev pub together : List (List ℕ) → List ℕ
together [] = []
together (xs ∷ ls) = put_all xs (together ls)

-- each number of the scope that may be found is among the candidates
abbrev pub Covers : (ℕ → Bool) → List ℕ → List ℕ → Type 0
Covers may scope candidates = (n : ℕ) → has_number n scope ≡ true → may n ≡ true → has_number n candidates ≡ true

-- The candidates that are in scope and pass are the numbers of the scope that pass, in order; for each test that only
-- what may be found passes.
abbrev pub Draws : (ℕ → Bool) → List ℕ → List ℕ → Type 0
Draws may scope candidates = (p : ℕ → Bool) → ((n : ℕ) → has_number n scope ≡ true → p n ≡ true → may n ≡ true)
    → filter (λ n. has_number n scope && p n) candidates ≡ filter p scope
