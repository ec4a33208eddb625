-- A class from which ranks fall at once, where they never rise, is on no loop.
use Rattle.std.proofs.Common.{ℕ, ◌+◌, ◌<◌, ◌≤◌, zero, suc, List, [], ◌∷◌, ◌++◌, Bool, true, false, cond, ◌&&◌, ◌||◌, Option, None, Some, ◌≡◌, ◌⊎◌, inl, inr, refl, ap, sym, subst, ◌∙◌, length, slice_get, nat_eq, nat_le, nat_lt, arith}
use Rattle.std.specs.List.{list_all}
use Rattle.std.proofs.lemmas.Bool.{cases_lt}
use Rattle.std.proofs.lemmas.Bool.Decides.{nat_tests}
use Rattle.ldap_schema.specs.Schema.{ClassModel}
use Rattle.ldap_schema.specs.Superclasses.{is_among, direct_superclasses, with_missing, gone_on, filled_from, filled}
use Rattle.ldap_schema.specs.Lines.{rank_in}
use Rattle.ldap_schema.proofs.Lineage.{within_of}
use Rattle.schema_reader.specs.Reading.{is_class_looping}
use Rattle.schema_reader.specs.private.Falling.{IsFalling, IsFallingBelow}
use Rattle.schema_reader.proofs.Loops.{false_true, or_cases, same_number}

and_one : (a b : Bool) → (a && b) ≡ true → a ≡ true
and_one true b h = refl
and_one false b h = h

and_two : (a b : Bool) → (a && b) ≡ true → b ≡ true
and_two true b h = h
and_two false b h = absurd (false_true h)

and_both : (a b : Bool) → a ≡ true → b ≡ true → (a && b) ≡ true
and_both true b g h = h
and_both false b g h = g

-- what holds of all members
all_of : (p q : ℕ → Bool) (xs : List ℕ) → ((x : ℕ) → p x ≡ true → q x ≡ true) → list_all p xs ≡ true → list_all q xs ≡
    true
all_of p q [] f h = refl
all_of p q (x ∷ xs) f h = and_both (q x) (list_all q xs) (f x (and_one (p x) (list_all p xs) h))
    (all_of p q xs f (and_two (p x) (list_all p xs) h))

member_of : (p : ℕ → Bool) (xs : List ℕ) (c : ℕ) → list_all p xs ≡ true → is_among xs c ≡ true → p c ≡ true
member_of p [] c h m = absurd (false_true m)
member_of p (x ∷ xs) c h m =
    or_cases (nat_eq c x) (is_among xs c) m (λ e. ap p (same_number c x e) ∙ and_one (p x) (list_all p xs) h)
    (λ n. member_of p xs c (and_two (p x) (list_all p xs) h) n)

all_end : (p : ℕ → Bool) (xs ys : List ℕ) → list_all p xs ≡ true → list_all p ys ≡ true → list_all p (xs ++ ys) ≡ true
all_end p [] ys g h = h
all_end p (x ∷ xs) ys g h = and_both (p x) (list_all p (xs ++ ys)) (and_one (p x) (list_all p xs) g)
    (all_end p xs ys (and_two (p x) (list_all p xs) g) h)

one_more : (p : ℕ → Bool) (have : List ℕ) (c : ℕ) (b : Bool) → list_all p have ≡ true → p c ≡ true →
    list_all p (cond b have (have ++ c ∷ [])) ≡ true
one_more p have c true g h = g
one_more p have c false g h = all_end p have (c ∷ []) g (and_both (p c) true h refl)

with_all : (p : ℕ → Bool) (have cs : List ℕ) → list_all p have ≡ true → list_all p cs ≡ true →
    list_all p (with_missing have cs) ≡ true
with_all p have [] g h = g
with_all p have (c ∷ cs) g h =
    with_all p (cond (is_among have c) have (have ++ c ∷ [])) cs (one_more p have c (is_among have c) g
    (and_one (p c) (list_all p cs) h)) (and_two (p c) (list_all p cs) h)

at_all : (p : ℕ → Bool) (xs : List ℕ) (i c : ℕ) → list_all p xs ≡ true → slice_get xs i ≡ Some c → p c ≡ true
at_all p [] i c h e = absurd (cc)
at_all p (x ∷ xs) zero c h e = let s : x ≡ c = cc in ap p (sym s) ∙ and_one (p x) (list_all p xs) h
at_all p (x ∷ xs) (suc i) c h e = at_all p xs i c (and_two (p x) (list_all p xs) h) e

-- what goes on up holds of all that is filled in
filled_by : (p : ℕ → Bool) (classes : List ClassModel) (k i : ℕ) (have : List ℕ) (o : Option ℕ) → slice_get have i ≡
    o → ((c : ℕ) → slice_get have i ≡ Some c →
    list_all p (filled_from k classes (i + 1) (with_missing have (direct_superclasses classes c))) ≡ true)
    → list_all p have ≡ true →
    list_all p (gone_on o have (λ c. filled_from k classes (i + 1)
    (with_missing have (direct_superclasses classes c)))) ≡ true
filled_by p classes k i have None e f h = h
filled_by p classes k i have (Some c) e f h = f c e

filled_all : (p : ℕ → Bool) (classes : List ClassModel) (k i : ℕ) (have : List ℕ) →
    ((c : ℕ) → p c ≡ true → list_all p (direct_superclasses classes c) ≡ true) → list_all p have ≡ true →
    list_all p (filled_from k classes i have) ≡ true
filled_all p classes zero i have up h = h
filled_all p classes (suc k) i have up h =
    filled_by p classes k i have (slice_get have i) refl
    (λ c e. filled_all p classes k (i + 1) (with_missing have (direct_superclasses classes c)) up
    (with_all p have (direct_superclasses classes c) h (up c (at_all p have i c h e)))) h

-- what holds of each member

itself_or : (x : ℕ) (b : Bool) → (nat_eq x x || b) ≡ true
itself_or x b = let e : nat_eq x x ≡ true = grind (arith, nat_tests) in ap (λ (a : Bool). a || b) e

pub behind_or : (a b : Bool) → b ≡ true → (a || b) ≡ true
behind_or true b h = refl
behind_or false b h = h

all_from : (p : ℕ → Bool) (xs : List ℕ) → ((u : ℕ) → is_among xs u ≡ true → p u ≡ true) → list_all p xs ≡ true
all_from p [] f = refl
all_from p (x ∷ xs) f = and_both (p x) (list_all p xs) (f x (itself_or x (is_among xs x)))
    (all_from p xs (λ u m. f u (behind_or (nat_eq u x) (is_among xs u) m)))

-- so what is found on the way up has lesser ranks

lower_by : (ranks : List ℕ) (c x u : ℕ) → nat_lt (rank_in ranks x) (rank_in ranks c) ≡ true →
    rank_in ranks u ≤ rank_in ranks x → nat_lt (rank_in ranks u) (rank_in ranks c) ≡ true
lower_by ranks c x u h le = let lt : rank_in ranks x < rank_in ranks c = grind (arith, nat_tests, h) in let lower :
    rank_in ranks u < rank_in ranks c = omega (arith, lt, le) in grind (arith, nat_tests, lower)

not_lower : (ranks : List ℕ) (c : ℕ) → nat_lt (rank_in ranks c) (rank_in ranks c) ≡ true → ⊥
not_lower ranks c h = let lt : rank_in ranks c < rank_in ranks c = grind (arith, nat_tests, h) in absurd
    (omega (arith, lt))

off_by : (b : Bool) → (b ≡ true → ⊥) → false ≡ b
off_by true f = absurd (f refl)
off_by false f = refl

pub not_looping : (classes : List ClassModel) (ranks : List ℕ) (c : ℕ) → IsFalling classes ranks →
    list_all (λ u. nat_lt (rank_in ranks u) (rank_in ranks c)) (direct_superclasses classes c) ≡ true →
    false ≡ is_class_looping classes c
not_looping classes ranks c r h =
    off_by (is_class_looping classes c)
    (λ l.
    not_lower ranks c
    (member_of (λ u. nat_lt (rank_in ranks u) (rank_in ranks c)) (filled classes (direct_superclasses classes c)) c
    (filled_all (λ u. nat_lt (rank_in ranks u) (rank_in ranks c)) classes (length (direct_superclasses classes c) +
    length classes) 0 (direct_superclasses classes c)
    (λ x lt. all_from (λ u. nat_lt (rank_in ranks u) (rank_in ranks c)) (direct_superclasses classes x)
    (λ u m. lower_by ranks c x u lt (r x u m))) h)
    l))

-- as the program has it
pub off_loop : (classes : List ClassModel) (ranks : List ℕ) (n c : ℕ) (direct : List ℕ) (b : Bool) →
    IsFalling classes ranks → c ≡ n → direct ≡ direct_superclasses classes c
    → b ≡ list_all (λ u. nat_lt (rank_in ranks u) (rank_in ranks c)) direct → b ≡ true →
    false ≡ is_class_looping classes n
off_loop classes ranks n c direct b r same directs tells is =
    not_looping classes ranks c r (sym (ap (list_all (λ u. nat_lt (rank_in ranks u) (rank_in ranks c))) directs)
    ∙ sym tells ∙ is) ∙ ap (is_class_looping classes) same

-- without ranks

-- the test of ranks, a class at a time

falling_one : (classes : List ClassModel) (ranks : List ℕ) (n c u : ℕ) →
    list_all (λ x. nat_le (rank_in ranks x) (rank_in ranks n)) (direct_superclasses classes n) ≡ true →
    IsFallingBelow classes ranks n
    → is_among (direct_superclasses classes c) u ≡ true → (c < n) ⊎ (n ≤ c) → c < n + 1 → rank_in ranks u ≤ rank_in
    ranks c
falling_one classes ranks n c u above so_far m (inl lt) within = so_far c u lt m
falling_one classes ranks n c u above so_far m (inr le) within =
    let same : c ≡ n = omega (arith, le, within) in
    let low : nat_le (rank_in ranks u) (rank_in ranks n) ≡ true =
    member_of (λ x. nat_le (rank_in ranks x) (rank_in ranks n)) (direct_superclasses classes n) u above
    (subst (λ (x : ℕ). is_among (direct_superclasses classes x) u ≡ true) same m) in
    subst (λ (x : ℕ). rank_in ranks u ≤ rank_in ranks x) (sym same) (grind (arith, nat_tests, low))

pub falling_more : (classes : List ClassModel) (ranks : List ℕ) (n c : ℕ) (direct : List ℕ) → c ≡ n →
    direct ≡ direct_superclasses classes c
    → list_all (λ x. nat_le (rank_in ranks x) (rank_in ranks c)) direct ≡ true → IsFallingBelow classes ranks n →
    IsFallingBelow classes ranks (n + 1)
falling_more classes ranks n c direct same directs above so_far =
    λ x u within m.
    falling_one classes ranks n x u
    (subst (λ (k : ℕ). list_all (λ y. nat_le (rank_in ranks y) (rank_in ranks k)) (direct_superclasses classes k) ≡
    true) same
    (sym (ap (list_all (λ y. nat_le (rank_in ranks y) (rank_in ranks c))) directs) ∙ above))
    so_far m (cases_lt x n) within

pub falling_whole : (classes : List ClassModel) (ranks : List ℕ) (n : ℕ) → length classes ≤ n →
    IsFallingBelow classes ranks n → IsFalling classes ranks
falling_whole classes ranks n le so_far = λ c u m. let lt : c < length classes = within_of classes c u m in so_far c u
    (omega (arith, le, lt)) m
