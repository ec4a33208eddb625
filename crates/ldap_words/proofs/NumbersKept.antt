-- Numbers that are kept at octets one after the other, and what is found of them.
use Rattle.std.proofs.Common.{ℕ, suc, ◌+◌, ◌<◌, ◌≤◌, List, [], ◌∷◌, Bool, true, false, ◌||◌, cond, Option, None, Some, Ordering, ◌≡◌, refl, ap, sym, ◌∙◌, Vec, Global, length, drop, get_or, nat_lt, add-one, drop-cons, arith}
use Rattle.std.specs.List.{list_any, position_from}
use Rattle.std.specs.Ordering.{is_eq, match_ordering, nat_cmp}
use Rattle.std.specs.Cmp.Lexicographic.{slice_cmp}
use Rattle.std.specs.Map.{lookup}
use Rattle.std.specs.BTreeMap.{insert_entry}
use Rattle.std.specs.Str.{bytes_eq}
use Rattle.std.proofs.lemmas.Bool.Decides.{nat_tests}
use Rattle.std.proofs.lemmas.Slice.Eq.{bytes_eq-Decides}
use Rattle.std.proofs.lemmas.Map.Text.{is_eq-slice_cmp}
use Rattle.ldap_words.specs.NameOrder.{number_at, lower}
use Rattle.ldap_words.specs.private.NameOrder.{kept_or}

-- the element at a place and what stands behind it
pub opened : {A : Type 0} (xs : List A) (i : ℕ) (x : A) → i < length xs → x ≡ get_or xs i x →
    drop i xs ≡ x ∷ drop (i + 1) xs
opened xs i x lt is = drop-cons xs i x lt ∙ ap (λ (y : _). y ∷ drop (suc i) xs) (sym is)
    ∙ ap (λ (n : ℕ). x ∷ drop n xs) (sym (add-one i))

-- a number that is there stays, and else the first one of the rest comes
abbrev pub or_else : Option ℕ → Option ℕ → Option ℕ
or_else None rest = rest
or_else (Some n) rest = Some n

none_else : (o : Option ℕ) → or_else o None ≡ o
none_else None = refl
none_else (Some n) = refl

-- no number is put
pub kept_not : (o : Option ℕ) (n : ℕ) → kept_or o false n ≡ o
kept_not None n = refl
kept_not (Some m) n = refl

pub kept_twice : (o : Option ℕ) (a b : Bool) (n : ℕ) → kept_or (kept_or o a n) b n ≡ kept_or o (a || b) n
kept_twice None true b n = refl
kept_twice None false b n = refl
kept_twice (Some m) a b n = refl

kept_then : (o rest : Option ℕ) (b : Bool) (n : ℕ) → or_else (kept_or o b n) rest ≡ or_else o (cond b (Some n) rest)
kept_then None rest true n = refl
kept_then None rest false n = refl
kept_then (Some m) rest b n = refl

-- one more name of a list
pub name_more : {A : Type 0} (p : A → Bool) (xs : List A) (i : ℕ) (x : A) (o new all : Option ℕ) (n : ℕ) →
    i < length xs → x ≡ get_or xs i x → new ≡ kept_or o (p x) n
    → kept_or o (list_any p (drop i xs)) n ≡ all → kept_or new (list_any p (drop (i + 1) xs)) n ≡ all
name_more p xs i x o new all n lt is put so_far =
    ap (λ z. kept_or z (list_any p (drop (i + 1) xs)) n) put
    ∙ kept_twice o (p x) (list_any p (drop (i + 1) xs)) n
    ∙ ap (λ (ys : List _). kept_or o (list_any p ys) n) (sym (opened xs i x lt is))
    ∙ so_far

pub names_done : {A : Type 0} (p : A → Bool) (xs rest : List A) (o all : Option ℕ) (n : ℕ) → rest ≡ [] →
    kept_or o (list_any p rest) n ≡ all → o ≡ all
names_done p xs rest o all n e h = sym (kept_not o n) ∙ ap (λ (ys : List _). kept_or o (list_any p ys) n) (sym e) ∙ h

-- one more type or class
pub number_more : {A : Type 0} (p : A → Bool) (xs : List A) (i : ℕ) (x : A) (o new all : Option ℕ) → i < length xs →
    x ≡ get_or xs i x → new ≡ kept_or o (p x) i
    → or_else o (position_from p i (drop i xs)) ≡ all → or_else new (position_from p (i + 1) (drop (i + 1) xs)) ≡ all
number_more p xs i x o new all lt is put so_far =
    ap (λ z. or_else z (position_from p (i + 1) (drop (i + 1) xs))) put
    ∙ kept_then o (position_from p (i + 1) (drop (i + 1) xs)) (p x) i
    ∙ ap (λ (ys : List _). or_else o (position_from p i ys)) (sym (opened xs i x lt is))
    ∙ so_far

pub numbers_done : {A : Type 0} (p : A → Bool) (rest : List A) (i : ℕ) (o all : Option ℕ) → rest ≡ [] →
    or_else o (position_from p i rest) ≡ all → o ≡ all
numbers_done p rest i o all e h = sym (none_else o) ∙ ap (λ (ys : List _). or_else o (position_from p i ys)) (sym e) ∙ h

-- the first that passes one of two tests is the lower one of the two that are found by each
later_by : (k n : ℕ) (b : Bool) (o : Option ℕ) → (o ≡ Some n → k + 1 ≤ n) → cond b (Some k) o ≡ Some n → k ≤ n
later_by k n true o f h = let s : k ≡ n = cc in omega arith
later_by k n false o f h = omega (arith, f h)

later : {A : Type 0} (p : A → Bool) (k : ℕ) (xs : List A) (n : ℕ) → position_from p k xs ≡ Some n → k ≤ n
later p k [] n h = cc
later p k (x ∷ xs) n h = later_by k n (p x) (position_from p (k + 1) xs) (λ e. later p (k + 1) xs n e) h

not_lower : (k m : ℕ) → k ≤ m → cond (nat_lt m k) m k ≡ k
not_lower k m le = grind (arith, nat_tests)

is_lower : (k m : ℕ) → k < m → cond (nat_lt k m) k m ≡ k
is_lower k m lt = grind (arith, nat_tests)

either_by : (k : ℕ) (a b : Bool) (ps qs rs : Option ℕ) → rs ≡ lower ps qs → ((n : ℕ) → ps ≡ Some n → k + 1 ≤ n) →
    ((n : ℕ) → qs ≡ Some n → k + 1 ≤ n) → cond (b || a) (Some k) rs ≡ lower (cond a (Some k) ps) (cond b (Some k) qs)
either_by k true true ps qs rs e f g = ap Some (sym (not_lower k k (omega arith)))
either_by k true false ps None rs e f g = refl
either_by k true false ps (Some m) rs e f g = let le : k + 1 ≤ m = g m refl in ap Some
    (sym (not_lower k m (omega arith)))
either_by k false true None qs rs e f g = refl
either_by k false true (Some m) qs rs e f g = let le : k + 1 ≤ m = f m refl in ap Some
    (sym (is_lower k m (omega arith)))
either_by k false false ps qs rs e f g = e

pub first_of_either : {A : Type 0} (p q : A → Bool) (k : ℕ) (xs : List A) → position_from (λ x. q x || p x) k xs ≡
    lower (position_from p k xs) (position_from q k xs)
first_of_either p q k [] = refl
first_of_either p q k (x ∷ xs) = either_by k (p x) (q x) _ _ _ (first_of_either p q (k + 1) xs)
    (λ n e. later p (k + 1) xs n e) (λ n e. later q (k + 1) xs n e)

abbrev Numbered : Type 0
Numbered = List (Vec ℕ Global × ℕ)

-- a look-up of the map
pub number_lookup : (q : List ℕ) (es : Numbered) → lookup (λ (k : Vec ℕ Global). is_eq (slice_cmp nat_cmp q k.items))
    es ≡ number_at es q
number_lookup q [] = refl
number_lookup q (e ∷ es) =
    ap (λ (b : Bool). cond b (Some e.1) (lookup (λ (k : Vec ℕ Global). is_eq (slice_cmp nat_cmp q k.items)) es))
    (is_eq-slice_cmp q e.0.items)
    ∙ ap (cond (bytes_eq q e.0.items) (Some e.1)) (number_lookup q es)

-- octets that are put
pub number_put : (key : Vec ℕ Global) (v : ℕ) (es : Numbered) (q : List ℕ) →
    number_at (insert_entry (λ (a b : Vec ℕ Global). slice_cmp nat_cmp a.items b.items) es key v) q ≡
    cond (bytes_eq q key.items) (Some v) (number_at es q)
number_put key v [] q = refl
number_put key v (e ∷ es) q = by (slice_cmp nat_cmp key.items e.0.items) refl (number_put key v es q)
  where
    rest : Numbered
    rest = insert_entry (λ (a b : Vec ℕ Global). slice_cmp nat_cmp a.items b.items) es key v

    swap : (a b : Bool) → (a ≡ true → b ≡ true → ⊥) → (x y : ℕ) (o : Option ℕ) → cond b (Some y) (cond a (Some x) o) ≡
        cond a (Some x) (cond b (Some y) o)
    swap true true apart x y o = absurd (apart refl refl)
    swap true false apart x y o = refl
    swap false b apart x y o = refl

    flat : (b : Bool) → cond b (Some v) (number_at es q) ≡ cond b (Some v) (cond b (Some e.1) (number_at es q))
    flat true = refl
    flat false = refl

    two : key.items ≡ e.0.items → bytes_eq key.items e.0.items ≡ false → ⊥
    two same other = let yes' : bytes_eq key.items e.0.items ≡ true = (bytes_eq-Decides key.items e.0.items).1 same
        in cc

    by : (o : Ordering) → o ≡ slice_cmp nat_cmp key.items e.0.items → number_at rest q ≡ cond (bytes_eq q key.items)
        (Some v) (number_at es q)
        → number_at (match_ordering o ((key, v) ∷ e ∷ es) ((e.0, v) ∷ es) (e ∷ rest)) q ≡ cond (bytes_eq q key.items)
        (Some v) (cond (bytes_eq q e.0.items) (Some e.1) (number_at es q))
    by Ordering.Less h ih = refl
    by Ordering.Equal h ih =
        let same : bytes_eq key.items e.0.items ≡ true = sym (is_eq-slice_cmp key.items e.0.items) ∙ ap is_eq (sym h) in
        let one : key.items ≡ e.0.items = (bytes_eq-Decides key.items e.0.items).0 same in
        flat (bytes_eq q e.0.items)
        ∙ sym (ap (λ (m : List ℕ). cond (bytes_eq q m) (Some v) (cond (bytes_eq q e.0.items) (Some e.1)
        (number_at es q))) one)
    by Ordering.Greater h ih =
        let other : bytes_eq key.items e.0.items ≡ false = sym (is_eq-slice_cmp key.items e.0.items)
        ∙ ap is_eq (sym h) in
        ap (λ (o : Option ℕ). cond (bytes_eq q e.0.items) (Some e.1) o) ih
        ∙ swap (bytes_eq q key.items) (bytes_eq q e.0.items) (λ a b. two (sym ((bytes_eq-Decides q key.items).0 a)
        ∙ (bytes_eq-Decides q e.0.items).0 b) other) v e.1 (number_at es q)
