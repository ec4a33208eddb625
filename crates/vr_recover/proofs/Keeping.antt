-- A response that is kept.
use Rattle.std.proofs.Common.{◌≡◌, ℕ, zero, suc, ◌-◌, ◌<◌, ◌≤◌, ◌==◌, nat_lt, Bool, true, false, cond, List, [], ◌∷◌, ◌++◌, length, get_or, set, take, refl, sym, ap, ◌∙◌, arith, lt-ltb, le-ltb}
use Rattle.std.proofs.Math.Seq.{take-append_seam}
use Rattle.std.proofs.lemmas.List.{length-append}
use Rattle.vr_state.specs.declared.message.Response.{Response}
use Rattle.vr_state.specs.Recovery.{keep}
use Rattle.vr_recover.specs.private.Responses.{place_of}

-- what is kept where the sender has a response at place p
kept_at : {P : Type 0} (j : ℕ) (a : Response P) (xs : List (ℕ × Response P)) (d : ℕ × Response P) →
    place_of j xs < length xs → keep j a xs ≡ cond (nat_lt (get_or xs (place_of j xs) d).1.view_number a.view_number)
    (set xs (place_of j xs) (j, a)) xs
kept_at j a [] d h = absurd (omega arith)
kept_at {P} j a (x ∷ xs) d h = go (kept_at j a xs d) (x.0 == j) h
  where
    within : (t : Bool) → x ∷ cond t (set xs (place_of j xs) (j, a)) xs ≡ cond t (x ∷ set xs (place_of j xs) (j, a))
        (x ∷ xs)
    within true = refl
    within false = refl

    go : (place_of j xs < length xs → keep j a xs ≡ cond (nat_lt (get_or xs (place_of j xs) d).1.view_number
        a.view_number) (set xs (place_of j xs) (j, a)) xs) → (b : Bool) → cond b 0 (suc (place_of j xs)) < suc
        (length xs) → cond b (cond (nat_lt x.1.view_number a.view_number) ((j, a) ∷ xs) (x ∷ xs)) (x ∷ keep j a xs) ≡
        cond (nat_lt (get_or (x ∷ xs) (cond b 0 (suc (place_of j xs))) d).1.view_number a.view_number)
        (set (x ∷ xs) (cond b 0 (suc (place_of j xs))) (j, a)) (x ∷ xs)
    go ih true lt = refl
    go ih false lt = ap (λ l. x ∷ l) (ih (omega arith)) ∙ within (nat_lt (get_or xs (place_of j xs) d).1.view_number
        a.view_number)

-- A response of a greater view takes the place of the sender's.
pub kept_greater : {P : Type 0} (j p : ℕ) (a : Response P) (xs : List (ℕ × Response P)) (x : ℕ × Response P) →
    p ≡ place_of j xs → p < length xs → x ≡ get_or xs p x → x.1.view_number < a.view_number → set xs p (j, a) ≡
    keep j a xs
kept_greater {P} j p a xs x e within is lt =
    sym (kept_at j a xs x (omega arith)
    ∙ ap (λ (q : ℕ). cond (nat_lt (get_or xs q x).1.view_number a.view_number) (set xs q (j, a)) xs) (sym e)
    ∙ ap (λ (y : ℕ × Response P). cond (nat_lt y.1.view_number a.view_number) (set xs p (j, a)) xs) (sym is)
    ∙ ap (λ t. cond t (set xs p (j, a)) xs) (lt-ltb x.1.view_number a.view_number lt))

-- One of no greater view changes nothing.
pub kept_same : {P : Type 0} (j p : ℕ) (a : Response P) (xs : List (ℕ × Response P)) (x : ℕ × Response P) →
    p ≡ place_of j xs → p < length xs → x ≡ get_or xs p x → a.view_number ≤ x.1.view_number → xs ≡ keep j a xs
kept_same {P} j p a xs x e within is le =
    sym (kept_at j a xs x (omega arith)
    ∙ ap (λ (q : ℕ). cond (nat_lt (get_or xs q x).1.view_number a.view_number) (set xs q (j, a)) xs) (sym e)
    ∙ ap (λ (y : ℕ × Response P). cond (nat_lt y.1.view_number a.view_number) (set xs p (j, a)) xs) (sym is)
    ∙ ap (λ t. cond t (set xs p (j, a)) xs) (le-ltb x.1.view_number a.view_number le))

-- The first response of a sender comes last.
pub kept_last : {P : Type 0} (j p : ℕ) (a : Response P) (xs : List (ℕ × Response P)) → p ≡ place_of j xs →
    length xs ≤ p → xs ++ (j, a) ∷ [] ≡ keep j a xs
kept_last j p a [] e h = refl
kept_last {P} j p a (x ∷ xs) e h = go (λ q f k. kept_last j q a xs f k) (x.0 == j) e
  where
    go : ((q : ℕ) → q ≡ place_of j xs → length xs ≤ q → xs ++ (j, a) ∷ [] ≡ keep j a xs) → (b : Bool) →
        p ≡ cond b 0 (suc (place_of j xs)) → x ∷ (xs ++ (j, a) ∷ []) ≡
        cond b (cond (nat_lt x.1.view_number a.view_number) ((j, a) ∷ xs) (x ∷ xs)) (x ∷ keep j a xs)
    go ih true f = absurd (omega arith)
    go ih false f = ap (λ l. x ∷ l) (ih (place_of j xs) refl (omega arith))

-- Without the last the list is as it was.
pub last_taken_back : {P : Type 0} (xs ys : List (ℕ × Response P)) (x : ℕ × Response P) → ys ≡ xs ++ x ∷ [] →
    take (length ys - 1) ys ≡ xs
last_taken_back {P} xs ys x e =
    ap (λ (l : List (ℕ × Response P)). take (length l - 1) l) e
    ∙ ap (λ (k : ℕ). take k (xs ++ x ∷ [])) (omega (arith, length-append xs (x ∷ [])))
    ∙ take-append_seam xs (x ∷ [])

-- what was written over
set_back : {A : Type 0} (xs : List A) (p : ℕ) (x y : A) → x ≡ get_or xs p x → p < length xs → set (set xs p y) p x ≡ xs
set_back [] p x y is h = refl
set_back (z ∷ xs) zero x y is h = ap (λ w. w ∷ xs) is
set_back (z ∷ xs) (suc p) x y is h = ap (λ l. z ∷ l) (set_back xs p x y is (omega arith))

-- With the earlier one in its place the list is as it was.
pub place_taken_back : {P : Type 0} (xs ys : List (ℕ × Response P)) (p : ℕ) (x y : ℕ × Response P) → ys ≡ set xs p y →
    x ≡ get_or xs p x → p < length xs → set ys p x ≡ xs
place_taken_back {P} xs ys p x y e is h = ap (λ (l : List (ℕ × Response P)). set l p x) e ∙ set_back xs p x y is h
