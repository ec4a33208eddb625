-- What stands twice in a list, an element at a time.
use Rattle.std.proofs.Common.{ℕ, ◌+◌, ◌<◌, List, [], ◌∷◌, ◌++◌, Bool, true, false, cond, ◌||◌, ◌≡◌, refl, ap, ap₂, sym, ◌∙◌, map, length, take, drop, get_or}
use Rattle.std.specs.List.{list_any}
use Rattle.std.proofs.lemmas.List.{take_more, take-append-drop}
use Rattle.std.proofs.lemmas.List.Folds.{list_any-append}
use Rattle.value_parts.proofs.Flipped.{any_flipped}
use Rattle.dir_entry.specs.Values.{has_twice}

or_four : (a b c d : Bool) → ((a || (b || false)) || (c || d)) ≡ ((a || c) || (b || d))
or_four true b c d = refl
or_four false true true d = refl
or_four false true false true = refl
or_four false true false false = refl
or_four false false true d = refl
or_four false false false d = refl

or_false : (a : Bool) → (a || false) ≡ a
or_false true = refl
or_false false = refl

or_both : (a b c d : Bool) → (a || b) ≡ true → (b ≡ true → d ≡ true) → ((a || c) || d) ≡ true
or_both true b c d h f = refl
or_both false b true d h f = refl
or_both false b false d h f = f h

pub twice_push : {A : Type 0} (eq : A → A → Bool) (xs : List A) (y : A) → has_twice eq (xs ++ y ∷ []) ≡
    (has_twice eq xs || list_any (λ x. eq x y) xs)
twice_push eq [] y = refl
twice_push eq (x ∷ xs) y =
    ap (λ (b : Bool). b || has_twice eq (xs ++ y ∷ [])) (list_any-append (eq x) xs (y ∷ []))
    ∙ ap (λ (b : Bool). (list_any (eq x) xs || (eq x y || false)) || b) (twice_push eq xs y)
    ∙ or_four (list_any (eq x) xs) (eq x y) (has_twice eq xs) (list_any (λ x. eq x y) xs)

pub twice_front : {A : Type 0} (eq : A → A → Bool) (xs ys : List A) → has_twice eq xs ≡ true →
    has_twice eq (xs ++ ys) ≡ true
twice_front eq [] ys h = absurd (cc)
twice_front eq (x ∷ xs) ys h =
    ap (λ (b : Bool). b || has_twice eq (xs ++ ys)) (list_any-append (eq x) xs ys)
    ∙ or_both (list_any (eq x) xs) (has_twice eq xs) (list_any (eq x) ys) (has_twice eq (xs ++ ys)) h
    (twice_front eq xs ys)

-- an element of which an equal one was seen
pub twice_found : {A : Type 0} (eq : A → A → Bool) (symm : (x y : A) → eq x y ≡ eq y x) (xs : List A) (i : ℕ)
    (x : A) → i < length xs → x ≡ get_or xs i x → list_any (eq x) (take i xs) ≡ true → has_twice eq xs ≡ true
twice_found eq symm xs i x lt is h =
    ap (has_twice eq) (sym (take-append-drop (i + 1) xs))
    ∙ twice_front eq (take (i + 1) xs) (drop (i + 1) xs)
    (ap (has_twice eq) (take_more xs i x lt ∙ ap (λ (y : _). take i xs ++ y ∷ []) (sym is))
    ∙ twice_push eq (take i xs) x ∙ ap (λ (b : Bool). has_twice eq (take i xs) || b)
    (any_flipped eq symm x (take i xs) ∙ h) ∙ or_true (has_twice eq (take i xs)))
  where
    or_true : (a : Bool) → (a || true) ≡ true
    or_true true = refl
    or_true false = refl

-- one more element, of which no equal one was seen
pub once_more : {A : Type 0} (eq : A → A → Bool) (symm : (x y : A) → eq x y ≡ eq y x) (xs : List A) (i : ℕ) (x : A) →
    i < length xs → x ≡ get_or xs i x → has_twice eq (take i xs) ≡ false → list_any (eq x) (take i xs) ≡ false
    → has_twice eq (take (i + 1) xs) ≡ false
once_more eq symm xs i x lt is so_far h =
    ap (has_twice eq) (take_more xs i x lt ∙ ap (λ (y : _). take i xs ++ y ∷ []) (sym is)) ∙ twice_push eq (take i xs) x
    ∙ ap (λ (b : Bool). b || list_any (λ z. eq z x) (take i xs)) so_far ∙ any_flipped eq symm x (take i xs) ∙ h

pub seen_more : {A : Type 0} (eq : A → A → Bool) (symm : (x y : A) → eq x y ≡ eq y x) (xs : List A) (i : ℕ) (x : A)
    (was now : A → Bool) → i < length xs → x ≡ get_or xs i x → ((q : A) → was q ≡ list_any (eq q) (take i xs))
    → ((q : A) → now q ≡ cond (eq x q) true (was q)) → (q : A) → now q ≡ list_any (eq q) (take (i + 1) xs)
seen_more eq symm xs i x was now lt is before step q =
    step q ∙ ap (cond (eq x q) true) (before q) ∙ ap (λ (b : Bool). cond b true (list_any (eq q) (take i xs)))
    (symm x q) ∙ cond_or (eq q x) (list_any (eq q) (take i xs))
    ∙ sym (list_any-append (eq q) (take i xs) (x ∷ []))
    ∙ ap (list_any (eq q)) (sym (take_more xs i x lt ∙ ap (λ (y : _). take i xs ++ y ∷ []) (sym is)))
  where
    cond_or : (b a : Bool) → cond b true a ≡ (a || (b || false))
    cond_or true true = refl
    cond_or true false = refl
    cond_or false true = refl
    cond_or false false = refl

pub same_map : {A B : Type 0} (f g : A → B) → ((x : A) → f x ≡ g x) → (xs : List A) → map f xs ≡ map g xs
same_map f g h [] = refl
same_map f g h (x ∷ xs) = ap₂ (λ (y : _) (ys : List _). y ∷ ys) (h x) (same_map f g h xs)

any_of_images : {A B : Type 0} (same : A → A → Bool) (eq : B → B → Bool) (f : A → B) →
    ((x y : A) → same x y ≡ eq (f x) (f y)) → (x : A) (xs : List A) → list_any (same x) xs ≡ list_any (eq (f x))
    (map f xs)
any_of_images same eq f h x [] = refl
any_of_images same eq f h x (y ∷ ys) = ap (λ (b : Bool). b || list_any (same x) ys) (h x y)
    ∙ ap (λ (b : Bool). eq (f x) (f y) || b) (any_of_images same eq f h x ys)

pub twice_of_map : {A B : Type 0} (same : A → A → Bool) (eq : B → B → Bool) (f : A → B) →
    ((x y : A) → same x y ≡ eq (f x) (f y)) → (xs : List A) → has_twice same xs ≡ has_twice eq (map f xs)
twice_of_map same eq f h [] = refl
twice_of_map same eq f h (x ∷ xs) =
    ap (λ (b : Bool). b || has_twice same xs) (any_of_images same eq f h x xs)
    ∙ ap (λ (b : Bool). list_any (eq (f x)) (map f xs) || b) (twice_of_map same eq f h xs)
