-- The first element of a list that is the same as one before it, an element at a time.
use Rattle.std.proofs.Common.{ℕ, ◌+◌, ◌<◌, suc, List, [], ◌∷◌, ◌++◌, Bool, true, false, cond, ◌||◌, Option, Some, ◌≡◌, refl, ap, sym, ◌∙◌, map, length, take, drop, drop-cons, add-one, get_or}
use Rattle.std.specs.List.{list_any}
use Rattle.std.proofs.lemmas.List.{take_more, map-append}
use Rattle.std.proofs.lemmas.List.Folds.{list_any-append}
use Rattle.ldif_faults.specs.Values.{again_from}

opened : {A : Type 0} (xs : List A) (i : ℕ) (x : A) → i < length xs → x ≡ get_or xs i x → drop i xs ≡ x ∷ drop (i + 1)
    xs
opened xs i x lt is = drop-cons xs i x lt ∙ ap (λ (y : _). y ∷ drop (suc i) xs) (sym is)
    ∙ ap (λ (n : ℕ). x ∷ drop n xs) (sym (add-one i))

taken : {A : Type 0} (xs : List A) (i : ℕ) (x : A) → i < length xs → x ≡ get_or xs i x → take (i + 1) xs ≡
    take i xs ++ x ∷ []
taken xs i x lt is = take_more xs i x lt ∙ ap (λ (y : _). take i xs ++ y ∷ []) (sym is)

-- an element that is the same as one before it
pub again_found : {A : Type 0} (same : A → A → Bool) (xs : List A) (i : ℕ) (x : A) (all : Option ℕ) → i < length xs →
    x ≡ get_or xs i x
    → list_any (same x) (take i xs) ≡ true → again_from same (take i xs) i (drop i xs) ≡ all → Some i ≡ all
again_found same xs i x all lt is h so_far =
    sym (ap (λ (b : Bool). cond b (Some i) (again_from same (take i xs ++ x ∷ []) (i + 1) (drop (i + 1) xs))) h)
    ∙ ap (again_from same (take i xs) i) (sym (opened xs i x lt is)) ∙ so_far

-- an element that is not
pub again_more : {A : Type 0} (same : A → A → Bool) (xs : List A) (i : ℕ) (x : A) (all : Option ℕ) → i < length xs →
    x ≡ get_or xs i x
    → list_any (same x) (take i xs) ≡ false → again_from same (take i xs) i (drop i xs) ≡ all
    → again_from same (take (i + 1) xs) (i + 1) (drop (i + 1) xs) ≡ all
again_more same xs i x all lt is h so_far =
    ap (λ (ys : List _). again_from same ys (i + 1) (drop (i + 1) xs)) (taken xs i x lt is)
    ∙ sym (ap (λ (b : Bool). cond b (Some i) (again_from same (take i xs ++ x ∷ []) (i + 1) (drop (i + 1) xs))) h)
    ∙ ap (again_from same (take i xs) i) (sym (opened xs i x lt is)) ∙ so_far

cond_or : (b a : Bool) → cond b true a ≡ (a || (b || false))
cond_or true true = refl
cond_or true false = refl
cond_or false true = refl
cond_or false false = refl

-- what was seen is the elements so far
pub seen_more : {A : Type 0} (same : A → A → Bool) (symm : (x y : A) → same x y ≡ same y x) (xs : List A) (i : ℕ)
    (x : A) (was now : A → Bool) → i < length xs → x ≡ get_or xs i x
    → ((q : A) → was q ≡ list_any (same q) (take i xs)) → ((q : A) → now q ≡ cond (same x q) true (was q)) → (q : A) →
    now q ≡ list_any (same q) (take (i + 1) xs)
seen_more same symm xs i x was now lt is before step q =
    step q ∙ ap (cond (same x q) true) (before q) ∙ ap (λ (b : Bool). cond b true (list_any (same q) (take i xs)))
    (symm x q) ∙ cond_or (same q x) (list_any (same q) (take i xs))
    ∙ sym (list_any-append (same q) (take i xs) (x ∷ []))
    ∙ ap (list_any (same q)) (sym (taken xs i x lt is))

any_of_images : {A B : Type 0} (same : A → A → Bool) (eq : B → B → Bool) (f : A → B) →
    ((x y : A) → same x y ≡ eq (f x) (f y)) → (x : A) (xs : List A) → list_any (same x) xs ≡ list_any (eq (f x))
    (map f xs)
any_of_images same eq f h x [] = refl
any_of_images same eq f h x (y ∷ ys) = ap (λ (b : Bool). b || list_any (same x) ys) (h x y)
    ∙ ap (λ (b : Bool). eq (f x) (f y) || b) (any_of_images same eq f h x ys)

-- the same of images, which are the same where their elements are
pub again_of_map : {A B : Type 0} (same : A → A → Bool) (eq : B → B → Bool) (f : A → B) →
    ((x y : A) → same x y ≡ eq (f x) (f y)) → (before : List A) (i : ℕ) (xs : List A)
    → again_from same before i xs ≡ again_from eq (map f before) i (map f xs)
again_of_map same eq f h before i [] = refl
again_of_map same eq f h before i (x ∷ xs) =
    ap (λ (b : Bool). cond b (Some i) (again_from same (before ++ x ∷ []) (i + 1) xs))
    (any_of_images same eq f h x before)
    ∙ ap (λ (o : Option ℕ). cond (list_any (eq (f x)) (map f before)) (Some i) o)
    (again_of_map same eq f h (before ++ x ∷ []) (i + 1) xs
    ∙ ap (λ (ys : List _). again_from eq ys (i + 1) (map f xs)) (map-append f before (x ∷ [])))
