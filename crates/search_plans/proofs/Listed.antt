-- Plans that are the same `or` of posting lists.
use Rattle.std.proofs.Common.{◌≡◌, ◌<◌, ◌≤◌, ◌+◌, ℕ, Bool, true, false, ◌||◌, List, [], ◌∷◌, ◌++◌, map, drop, Vec, Global, Result, Ok, Err, IfOk, length, take, get_or, refl, sym, ap, ◌∙◌}
use Rattle.std.proofs.lemmas.List.{append-nil, drop_all, take_more, take_all}
use Rattle.std.proofs.lemmas.List.Folds.{list_any-append}
use Rattle.std.specs.List.{list_any}
use Rattle.dir_index.specs.Postings.{Lists}
use Rattle.search_plans.specs.Sets.{is_in}
use Rattle.search_plans.specs.declared.plan.Plan.{Plan}
use Rattle.search_plans.specs.declared.plan.Plan.TheVariants as plan
use Rattle.search_plans.proofs.Equations.{in_plan-Union}
use Rattle.search_plans.proofs.Rising.{any_map}

-- a number is in an `or` where it is in one of its plans
pub union_is : (kept : Lists) (scope : List ℕ) (p : Plan) (v : Vec Plan Global) → p ≡ plan.Union v → (n : ℕ) →
    is_in kept scope p n ≡ list_any (λ q. is_in kept scope q n) v.items
union_is kept scope p v is n = ap (λ (q : Plan). is_in kept scope q n) is ∙ in_plan-Union _ _ _ v ∙ any_map _ _ v.items

-- the same where two plans are the same
pub same_weaker : {E : Type 0} (P Q : Type 0) → (P → Q) → (r : Result Bool E) → IfOk r (λ b. b ≡ true → P) →
    IfOk r (λ b. b ≡ true → Q)
same_weaker P Q f (Ok b) h = λ e. f (h e)
same_weaker P Q f (Err e) h = tt

-- a list with one item for each of another's, once all are through
pub each_done : {X Y : Type 0} (f : X → Y) (so_far : List Y) (xs : List X) (i : ℕ) → length xs ≤ i →
    so_far ++ map f (drop i xs) ≡ map f xs → so_far ≡ map f xs
each_done f so_far xs i le h = sym (append-nil so_far) ∙ ap (λ ys. so_far ++ map f ys) (sym (drop_all i xs le)) ∙ h

or_false : (b : Bool) → (b || false) ≡ b
or_false true = refl
or_false false = refl

or_assoc : (a b c : Bool) → ((a || b) || c) ≡ (a || (b || c))
or_assoc true b c = refl
or_assoc false b c = refl

-- one element more passes or not
pub any_more : {X : Type 0} (p : X → Bool) (xs : List X) (i : ℕ) (x : X) → i < length xs → x ≡ get_or xs i x →
    list_any p (take (i + 1) xs) ≡ (list_any p (take i xs) || p x)
any_more {X} p xs i x lt at =
    ap (list_any p) (take_more xs i x lt ∙ ap (λ (y : X). take i xs ++ y ∷ []) (sym at))
    ∙ list_any-append p (take i xs) (x ∷ []) ∙ ap (λ (b : Bool). list_any p (take i xs) || b) (or_false (p x))

pub any_done : {X : Type 0} (p : X → Bool) (xs : List X) (i : ℕ) → length xs ≤ i → list_any p (take i xs) ≡
    list_any p xs
any_done p xs i le = ap (list_any p) (take_all i xs le)

-- the lists of one plan more
pub exact_more : {X : Type 0} (p : X → Bool) (xs : List X) (i : ℕ) (x : X) (before middle after : Bool) →
    i < length xs → x ≡ get_or xs i x → middle ≡ (before || list_any p (take i xs)) → after ≡ (middle || p x)
    → after ≡ (before || list_any p (take (i + 1) xs))
exact_more p xs i x before middle after lt at so_far more =
    more ∙ ap (λ (b : Bool). b || p x) so_far ∙ or_assoc before (list_any p (take i xs)) (p x)
    ∙ ap (λ (b : Bool). before || b) (sym (any_more p xs i x lt at))
