-- Values in their places, and since which place those of some octets are held.
use Rattle.std.proofs.Common.{◌≡◌, ◌≤◌, ◌<◌, ◌+◌, ℕ, suc, Bool, true, false, cond, not, ◌||◌, List, [], ◌∷◌, ◌++◌, Option, Some, None, refl, sym, ap, ap₂, ◌∙◌, map, length, arith}
use Rattle.std.specs.List.{list_any}
use Rattle.std.specs.Bool.{nat_le}
use Rattle.std.specs.Str.{bytes_eq}
use Rattle.std.proofs.lemmas.Bool.Decides.{nat_tests}
use Rattle.std.proofs.lemmas.Slice.Eq.{bytes_eq-Decides}
use Rattle.dir_entry.specs.Picked.{picked}
use Rattle.entry_changes.specs.Opening.{is_since, marks_from}

abbrev pub At : Type 0
At = List ℕ → Option ℕ

pub same_octets : (x : List ℕ) → bytes_eq x x ≡ true
same_octets x = (bytes_eq-Decides x x).1 refl

reached : (n i : ℕ) → n ≤ i → nat_le n i ≡ true
reached n i h = grind (arith, nat_tests, h)

not_reached : (n i : ℕ) → i < n → nat_le n i ≡ false
not_reached n i h = grind (arith, nat_tests, h)

shifted : (i k : ℕ) → (i + 1) + k ≡ i + suc k
shifted i k = omega arith

within : (i k n : ℕ) → i + suc k ≤ n → (i + 1) + k ≤ n
within i k n h = omega arith

before : (i k n : ℕ) → i + suc k ≤ n → i < n
before i k n h = omega arith

later : (n i : ℕ) → n ≤ i → n ≤ i + 1
later n i h = omega arith

pub marks_length : (f : At) (i : ℕ) (xs : List (List ℕ)) → length (marks_from f i xs) ≡ length xs
marks_length f i [] = refl
marks_length f i (x ∷ xs) = ap suc (marks_length f (i + 1) xs)

pub marks_append : (f : At) (i : ℕ) (xs ys : List (List ℕ)) → marks_from f i (xs ++ ys) ≡ marks_from f i
    xs ++ marks_from f (i + length xs) ys
marks_append f i [] ys = ap (λ (n : ℕ). marks_from f n ys) (plus_none i)
  where
    plus_none : (i : ℕ) → i ≡ i + 0
    plus_none i = omega arith
marks_append f i (x ∷ xs) ys =
    ap (λ (ms : List Bool). is_since (f x) i ∷ ms) (marks_append f (i + 1) xs ys
    ∙ ap (λ (n : ℕ). marks_from f (i + 1) xs ++ marks_from f n ys) (shifted i (length xs)))

pub picked_append : {A : Type 0} (ms ns : List Bool) (xs ys : List A) → length ms ≡ length xs →
    picked (ms ++ ns) (xs ++ ys) ≡ picked ms xs ++ picked ns ys
picked_append [] ns [] ys h = refl
picked_append [] ns (x ∷ xs) ys h = absurd (cc)
picked_append (m ∷ ms) ns [] ys h = absurd (cc)
picked_append (true ∷ ms) ns (x ∷ xs) ys h = ap (λ (zs : List _). x ∷ zs) (picked_append ms ns xs ys (cc))
picked_append (false ∷ ms) ns (x ∷ xs) ys h = picked_append ms ns xs ys (cc)

or_true : (a : Bool) → (a || true) ≡ true
or_true true = refl
or_true false = refl

more_of : (a b : Bool) → b ≡ true → (a || b) ≡ true
more_of a b h = ap (λ (c : Bool). a || c) h ∙ or_true a

-- values that are all held since a place that lies before them
pub picked_all : {A : Type 0} (f : At) (n i : ℕ) (xs : List (List ℕ)) (ys : List A) → n ≤ i → length xs ≡ length ys →
    ((q : List ℕ) → list_any (bytes_eq q) xs ≡ true → f q ≡ Some n) → picked (marks_from f i xs) ys ≡ ys
picked_all f n i [] [] le e h = refl
picked_all f n i [] (y ∷ ys) le e h = absurd (cc)
picked_all f n i (x ∷ xs) [] le e h = absurd (cc)
picked_all f n i (x ∷ xs) (y ∷ ys) le e h =
    let first : is_since (f x) i ≡ true = ap (λ (o : Option ℕ). is_since o i)
    (h x (ap (λ (b : Bool). b || list_any (bytes_eq x) xs) (same_octets x))) ∙ reached n i le in
    ap (λ (m : Bool). picked (m ∷ marks_from f (i + 1) xs) (y ∷ ys)) first
    ∙ ap (λ (zs : List _). y ∷ zs) (picked_all f n (i + 1) xs ys (later n i le) (cc)
    (λ q k. h q (more_of (bytes_eq q x) (list_any (bytes_eq q) xs) k)))

-- values that lie before the place since which others are held
pub marks_before : (f g : At) (p : List ℕ → Bool) (n i : ℕ) (xs : List (List ℕ)) → i + length xs ≤ n →
    ((q : List ℕ) → g q ≡ cond (p q) (Some n) (f q)) → ((q : List ℕ) → p q ≡ true → f q ≡ None) → marks_from g i xs ≡
    marks_from f i xs
marks_before f g p n i [] le e h = refl
marks_before f g p n i (x ∷ xs) le e h =
    ap₂ (λ (m : Bool) (ms : List Bool). m ∷ ms) (ap (λ (o : Option ℕ). is_since o i) (e x) ∙ by (p x) refl)
    (marks_before f g p n (i + 1) xs (within i (length xs) n le) e h)
  where
    by : (b : Bool) → p x ≡ b → is_since (cond b (Some n) (f x)) i ≡ is_since (f x) i
    by true k = not_reached n i (before i (length xs) n le) ∙ ap (λ (o : Option ℕ). is_since o i) (sym (h x k))
    by false k = refl

-- values that are put after others
pub picked_more : {A : Type 0} (f g : At) (p : List ℕ → Bool) (n : ℕ) (xs os : List (List ℕ)) (vs ws : List A) →
    length xs ≡ length vs → length os ≡ length ws → n ≡ length xs → ((q : List ℕ) → g q ≡ cond (p q) (Some n) (f q)) →
    ((q : List ℕ) → p q ≡ true → f q ≡ None)
    → ((q : List ℕ) → list_any (bytes_eq q) os ≡ true → p q ≡ true) → picked (marks_from g 0 (xs ++ os)) (vs ++ ws) ≡
    picked (marks_from f 0 xs) vs ++ ws
picked_more f g p n xs os vs ws e k is step fresh given =
    ap (λ (ms : List Bool). picked ms (vs ++ ws)) (marks_append g 0 xs os)
    ∙ picked_append (marks_from g 0 xs) (marks_from g (0 + length xs) os) vs ws (marks_length g 0 xs ∙ e)
    ∙ ap₂ (λ (a b : List _). a ++ b) (ap (λ (ms : List Bool). picked ms vs)
    (marks_before f g p n 0 xs (omega (arith, is)) step fresh))
    (picked_all g n (0 + length xs) os ws (omega (arith, is)) k (λ q h. step q
    ∙ ap (λ (b : Bool). cond b (Some n) (f q)) (given q h)))

-- values that are taken out
pub picked_less : {A : Type 0} (f g : At) (p : List ℕ → Bool) (i : ℕ) (xs : List (List ℕ)) (vs : List A) →
    length xs ≡ length vs → ((q : List ℕ) → g q ≡ cond (p q) None (f q))
    → picked (marks_from g i xs) vs ≡ picked (map (λ x. not (p x)) (picked (marks_from f i xs) xs))
    (picked (marks_from f i xs) vs)
picked_less f g p i [] [] e step = refl
picked_less f g p i [] (v ∷ vs) e step = absurd (cc)
picked_less f g p i (x ∷ xs) [] e step = absurd (cc)
picked_less {A} f g p i (x ∷ xs) (v ∷ vs) e step =
    ap (λ (o : Option ℕ). picked (is_since o i ∷ marks_from g (i + 1) xs) (v ∷ vs)) (step x)
    ∙ by (p x) refl (f x) (picked_less f g p (i + 1) xs vs (cc) step)
  where
    kept : List (List ℕ)
    kept = picked (marks_from f (i + 1) xs) xs

    left : List A
    left = picked (marks_from f (i + 1) xs) vs

    to : (b m : Bool) → p x ≡ b → picked (marks_from g (i + 1) xs) vs ≡ picked (map (λ y. not (p y)) kept) left
        → cond (cond b false m) (v ∷ picked (marks_from g (i + 1) xs) vs) (picked (marks_from g (i + 1) xs) vs) ≡
        picked (map (λ y. not (p y)) (cond m (x ∷ kept) kept)) (cond m (v ∷ left) left)
    to true true h ih = ih ∙ ap (λ (b : Bool). cond (not b) (v ∷ picked (map (λ y. not (p y)) kept) left)
        (picked (map (λ y. not (p y)) kept) left)) (sym h)
    to true false h ih = ih
    to false true h ih = ap (λ (zs : List A). v ∷ zs) ih
        ∙ ap (λ (b : Bool). cond (not b) (v ∷ picked (map (λ y. not (p y)) kept) left)
        (picked (map (λ y. not (p y)) kept) left)) (sym h)
    to false false h ih = ih

    since_by : (b : Bool) (o : Option ℕ) → is_since (cond b None o) i ≡ cond b false (is_since o i)
    since_by true o = refl
    since_by false o = refl

    by : (b : Bool) → p x ≡ b → (o : Option ℕ) → picked (marks_from g (i + 1) xs) vs ≡
        picked (map (λ y. not (p y)) kept) left
        → cond (is_since (cond (p x) None o) i) (v ∷ picked (marks_from g (i + 1) xs) vs)
        (picked (marks_from g (i + 1) xs) vs) ≡
        picked (map (λ y. not (p y)) (cond (is_since o i) (x ∷ kept) kept)) (cond (is_since o i) (v ∷ left) left)
    by b h o ih =
        ap (λ (c : Bool). cond (is_since (cond c None o) i) (v ∷ picked (marks_from g (i + 1) xs) vs)
        (picked (marks_from g (i + 1) xs) vs)) h
        ∙ ap (λ (m : Bool). cond m (v ∷ picked (marks_from g (i + 1) xs) vs) (picked (marks_from g (i + 1) xs) vs))
        (since_by b o)
        ∙ to b (is_since o i) h ih

-- octets that are among those left
pub any_left : (p : List ℕ → Bool) (q : List ℕ) (xs : List (List ℕ)) →
    list_any (bytes_eq q) (picked (map (λ x. not (p x)) xs) xs) ≡ cond (p q) false (list_any (bytes_eq q) xs)
any_left p q [] = none (p q)
  where
    none : (b : Bool) → false ≡ cond b false false
    none true = refl
    none false = refl
any_left p q (x ∷ xs) = by (p x) refl (bytes_eq q x) refl (any_left p q xs)
  where
    rest : List (List ℕ)
    rest = picked (map (λ y. not (p y)) xs) xs

    by : (b : Bool) → p x ≡ b → (e : Bool) → bytes_eq q x ≡ e → list_any (bytes_eq q) rest ≡ cond (p q) false
        (list_any (bytes_eq q) xs)
        → list_any (bytes_eq q) (cond (not (p x)) (x ∷ rest) rest) ≡ cond (p q) false
        (bytes_eq q x || list_any (bytes_eq q) xs)
    by b h true k ih =
        let one : q ≡ x = (bytes_eq-Decides q x).0 k in
        ap (λ (c : Bool). list_any (bytes_eq q) (cond (not c) (x ∷ rest) rest)) h
        ∙ gone b (ap p one ∙ h)
        ∙ ap (λ (c : Bool). cond (p q) false (c || list_any (bytes_eq q) xs)) (sym k)
      where
        gone : (b : Bool) → p q ≡ b → list_any (bytes_eq q) (cond (not b) (x ∷ rest) rest) ≡ cond (p q) false true
        gone true w = ih ∙ ap (λ (c : Bool). cond c false (list_any (bytes_eq q) xs)) w
            ∙ ap (λ (c : Bool). cond c false true) (sym w)
        gone false w = ap (λ (c : Bool). c || list_any (bytes_eq q) rest) k ∙ ap (λ (c : Bool). cond c false true)
            (sym w)
    by true h false k ih = ap (λ (c : Bool). list_any (bytes_eq q) (cond (not c) (x ∷ rest) rest)) h ∙ ih
        ∙ ap (λ (c : Bool). cond (p q) false (c || list_any (bytes_eq q) xs)) (sym k)
    by false h false k ih =
        ap (λ (c : Bool). list_any (bytes_eq q) (cond (not c) (x ∷ rest) rest)) h
        ∙ ap (λ (c : Bool). c || list_any (bytes_eq q) rest) k ∙ ih
        ∙ ap (λ (c : Bool). cond (p q) false (c || list_any (bytes_eq q) xs)) (sym k)
