-- Marks that are a test's answers.
use Rattle.std.proofs.Common.{List, [], ◌∷◌, Bool, false, cond, not, ◌&&◌, ◌||◌, ◌≡◌, refl, ap, ◌∙◌, map, filter}
use Rattle.std.specs.List.{list_any, list_all}
use Rattle.dir_entry.specs.Picked.{picked}

-- the elements whose mark is a test's answer
pub picked_by : {A : Type 0} (p : A → Bool) (xs : List A) → picked (map p xs) xs ≡ filter p xs
picked_by p [] = refl
picked_by p (x ∷ xs) = ap (λ (ys : List _). cond (p x) (x ∷ ys) ys) (picked_by p xs)

pub any_marked : {A : Type 0} (p : A → Bool) (xs : List A) → list_any (λ m. m) (map p xs) ≡ list_any p xs
any_marked p [] = refl
any_marked p (x ∷ xs) = ap (λ (b : Bool). p x || b) (any_marked p xs)

pub all_marked : {A : Type 0} (p : A → Bool) (xs : List A) → list_all (λ m. m) (map p xs) ≡ list_all p xs
all_marked p [] = refl
all_marked p (x ∷ xs) = ap (λ (b : Bool). p x && b) (all_marked p xs)

pub marks_turned : {A : Type 0} (p : A → Bool) (xs : List A) → map not (map p xs) ≡ map (λ x. not (p x)) xs
marks_turned p [] = refl
marks_turned p (x ∷ xs) = ap (λ (ys : List Bool). not (p x) ∷ ys) (marks_turned p xs)

pub none_of : {A : Type 0} (xs : List A) → list_any (λ x. false) xs ≡ false
none_of [] = refl
none_of (x ∷ xs) = none_of xs

pub kept_left : {A : Type 0} (p : A → Bool) (vs picks : List A) (ms ds : List Bool) → picks ≡ picked ms vs →
    ms ≡ map not ds → ds ≡ map p vs → picks ≡ filter (λ v. not (p v)) vs
kept_left p vs picks ms ds h k d = h ∙ ap (λ (m : List Bool). picked m vs) (k ∙ ap (map not) d ∙ marks_turned p vs)
    ∙ picked_by (λ v. not (p v)) vs
