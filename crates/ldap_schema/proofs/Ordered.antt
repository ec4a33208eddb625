-- What is under what, with ranks that fall upwards: classes in order of rank are in line where each is under the one
-- before it.
use Rattle.std.proofs.Common.{ℕ, ◌<◌, ◌≤◌, suc, List, [], ◌∷◌, Bool, true, false, cond, ◌&&◌, ◌||◌, None, Some, ◌≡◌, ◌⊎◌, refl, ap, sym, subst, ◌∙◌, length, nat_eq, nat_lt, filter, get_or, inl, inr, arith}
use Rattle.std.specs.List.{list_all}
use Rattle.std.specs.List.Sorted.{IsPermutation, IsNonDecreasingBy}
use Rattle.std.proofs.lemmas.Bool.Decides.{nat_tests}
use Rattle.std.proofs.lemmas.List.Sorted.{list_any-IsPermutation, IsPermutation-sym}
use Rattle.ldap_schema.specs.Superclasses.{is_among}
use Rattle.ldap_schema.specs.Lines.{is_either_under, are_all_in_line, first_of, lowest_in, rank_in}
use Rattle.ldap_schema.specs.private.Lines.{falls, falls_whole, greatest}
pub use Rattle.ldap_schema.proofs.Chains.{and_one}
pub use Rattle.ldap_schema.proofs.Chains.{and_two}
use Rattle.ldap_schema.proofs.Chains.{or_cases, or_second}

pub record IsRankedOrder (under : ℕ → ℕ → Bool) (ranks : List ℕ) : Type 0 where
  pub itself : (a : ℕ) → under a a ≡ true
  pub through : (a b c : ℕ) → under a b ≡ true → under b c ≡ true → under a c ≡ true
  pub ranked : (a b : ℕ) → under a b ≡ true → (a ≡ b) ⊎ (rank_in ranks b < rank_in ranks a)

pub both : (a b : Bool) → a ≡ true → b ≡ true → (a && b) ≡ true
both true b h k = k
both false b h k = cc

or_first : (a b : Bool) → a ≡ true → (a || b) ≡ true
or_first true b h = refl
or_first false b h = cc

false_true : false ≡ true → ⊥
false_true h = cc

-- two tests that imply each other
pub bool_ext : (a b : Bool) → (a ≡ true → b ≡ true) → (b ≡ true → a ≡ true) → a ≡ b
bool_ext true b f g = sym (f refl)
bool_ext false true f g = g refl
bool_ext false false f g = refl

pub same_number : (a b : ℕ) → nat_eq a b ≡ true → a ≡ b
same_number a b h = grind (arith, nat_tests, h)

pub number_same : (a : ℕ) → nat_eq a a ≡ true
number_same a = grind (arith, nat_tests)

-- tests of all

pub each : (p q : ℕ → Bool) (xs : List ℕ) → ((x : ℕ) → p x ≡ true → q x ≡ true) → list_all p xs ≡ true →
    list_all q xs ≡ true
each p q [] f h = refl
each p q (x ∷ xs) f h = both (q x) (list_all q xs) (f x (and_one (p x) (list_all p xs) h))
    (each p q xs f (and_two (p x) (list_all p xs) h))

pub one_of : (p : ℕ → Bool) (xs : List ℕ) (c : ℕ) → list_all p xs ≡ true → is_among xs c ≡ true → p c ≡ true
one_of p [] c h m = cc
one_of p (x ∷ xs) c h m =
    or_cases (nat_eq c x) (is_among xs c) m (λ e. subst (λ (y : ℕ). p y ≡ true) (sym (same_number c x e))
    (and_one (p x) (list_all p xs) h))
    (λ k. one_of p xs c (and_two (p x) (list_all p xs) h) k)

pub all_of : (p : ℕ → Bool) (xs : List ℕ) → ((c : ℕ) → is_among xs c ≡ true → p c ≡ true) → list_all p xs ≡ true
all_of p [] f = refl
all_of p (x ∷ xs) f = both (p x) (list_all p xs) (f x (or_first (nat_eq x x) (is_among xs x) (number_same x)))
    (all_of p xs (λ c m. f c (or_second (nat_eq c x) (is_among xs c) m)))

both_all : (p q : ℕ → Bool) (xs : List ℕ) → list_all p xs ≡ true → list_all q xs ≡ true → list_all (λ x. p x && q x)
    xs ≡ true
both_all p q [] h k = refl
both_all p q (x ∷ xs) h k =
    both (p x && q x) (list_all (λ x. p x && q x) xs) (both (p x) (q x) (and_one (p x) (list_all p xs) h)
    (and_one (q x) (list_all q xs) k))
    (both_all p q xs (and_two (p x) (list_all p xs) h) (and_two (q x) (list_all q xs) k))

-- classes that fall are in line

all_below : (under : ℕ → ℕ → Bool) (ranks : List ℕ) → IsRankedOrder under ranks → (a : ℕ) (bs : List ℕ) →
    falls under a bs ≡ true → list_all (λ x. under x a) bs ≡ true
all_below under ranks o a [] h = refl
all_below under ranks o a (b ∷ bs) h =
    let down : under b a ≡ true = and_one (under b a) (falls under b bs) h in
    both (under b a) (list_all (λ x. under x a) bs) down
    (each (λ x. under x b) (λ x. under x a) bs (λ x k. o.through x b a k down)
    (all_below under ranks o b bs (and_two (under b a) (falls under b bs) h)))

one_more : (under : ℕ → ℕ → Bool) (ranks : List ℕ) → IsRankedOrder under ranks → (a : ℕ) (bs : List ℕ) →
    list_all (is_either_under under a) bs ≡ true → are_all_in_line under bs ≡ true
    → are_all_in_line under (a ∷ bs) ≡ true
one_more under ranks o a bs line pairs =
    both (list_all (is_either_under under a) (a ∷ bs)) (list_all (λ x. list_all (is_either_under under x) (a ∷ bs)) bs)
    (both (is_either_under under a a) (list_all (is_either_under under a) bs) (or_first (under a a) (under a a)
    (o.itself a)) line)
    (both_all (λ x. is_either_under under x a) (λ x. list_all (is_either_under under x) bs) bs
    (each (is_either_under under a) (λ x. is_either_under under x a) bs (λ x k. or_cases (under a x) (under x a) k
    (or_second (under x a) (under a x)) (or_first (under x a) (under a x))) line) pairs)

fallen : (under : ℕ → ℕ → Bool) (ranks : List ℕ) → IsRankedOrder under ranks → (a : ℕ) (bs : List ℕ) →
    falls under a bs ≡ true → are_all_in_line under (a ∷ bs) ≡ true
fallen under ranks o a [] h = one_more under ranks o a [] refl refl
fallen under ranks o a (b ∷ bs) h =
    one_more under ranks o a (b ∷ bs) (each (λ x. under x a) (is_either_under under a) (b ∷ bs)
    (λ x k. or_second (under a x) (under x a) k) (all_below under ranks o a (b ∷ bs) h))
    (fallen under ranks o b bs (and_two (under b a) (falls under b bs) h))

-- classes in line fall, where they stand in order of rank

tail_rises : (n : ℕ → ℕ) (a : ℕ) (bs : List ℕ) → IsNonDecreasingBy n (a ∷ bs) → IsNonDecreasingBy n bs
tail_rises n a bs h i j d le lt = h (suc i) (suc j) d (omega (arith, le)) (omega (arith, lt))

tail_in_line : (under : ℕ → ℕ → Bool) (a : ℕ) (bs : List ℕ) → are_all_in_line under (a ∷ bs) ≡ true →
    are_all_in_line under bs ≡ true
tail_in_line under a bs h =
    each (λ x. list_all (is_either_under under x) (a ∷ bs)) (λ x. list_all (is_either_under under x) bs) bs
    (λ x k. and_two (is_either_under under x a) (list_all (is_either_under under x) bs) k)
    (and_two (list_all (is_either_under under a) (a ∷ bs))
    (list_all (λ x. list_all (is_either_under under x) (a ∷ bs)) bs) h)

first_two : (under : ℕ → ℕ → Bool) (a b : ℕ) (bs : List ℕ) → are_all_in_line under (a ∷ b ∷ bs) ≡ true →
    (under a b || under b a) ≡ true
first_two under a b bs h =
    and_one (is_either_under under a b) (list_all (is_either_under under a) bs)
    (and_two (is_either_under under a a) (list_all (is_either_under under a) (b ∷ bs))
    (and_one (list_all (is_either_under under a) (a ∷ b ∷ bs))
    (list_all (λ x. list_all (is_either_under under x) (a ∷ b ∷ bs)) (b ∷ bs)) h))

same_or_less : (under : ℕ → ℕ → Bool) (ranks : List ℕ) → IsRankedOrder under ranks → (a b : ℕ) →
    rank_in ranks a ≤ rank_in ranks b → (a ≡ b) ⊎ (rank_in ranks b < rank_in ranks a) → under b a ≡ true
same_or_less under ranks o a b le (inl e) = subst (λ (x : ℕ). under x a ≡ true) e (o.itself a)
same_or_less under ranks o a b le (inr lt) = absurd (omega (arith, le, lt))

in_line_falls : (under : ℕ → ℕ → Bool) (ranks : List ℕ) → IsRankedOrder under ranks → (a : ℕ) (bs : List ℕ) →
    IsNonDecreasingBy (rank_in ranks) (a ∷ bs) → are_all_in_line under (a ∷ bs) ≡ true
    → falls under a bs ≡ true
in_line_falls under ranks o a [] up h = refl
in_line_falls under ranks o a (b ∷ bs) up h =
    both (under b a) (falls under b bs)
    (or_cases (under a b) (under b a) (first_two under a b bs h) (λ k. same_or_less under ranks o a b
    (up 0 1 a (omega arith) (omega arith)) (o.ranked a b k)) (λ k. k))
    (in_line_falls under ranks o b bs (tail_rises (rank_in ranks) a (b ∷ bs) up) (tail_in_line under a (b ∷ bs) h))

sorted_tells : (under : ℕ → ℕ → Bool) (ranks : List ℕ) → IsRankedOrder under ranks → (cs : List ℕ) →
    IsNonDecreasingBy (rank_in ranks) cs → falls_whole under cs ≡ are_all_in_line under cs
sorted_tells under ranks o [] up = refl
sorted_tells under ranks o (a ∷ bs) up = bool_ext (falls under a bs) (are_all_in_line under (a ∷ bs))
    (fallen under ranks o a bs) (in_line_falls under ranks o a bs up)

-- the order of classes does not matter

all_permuted : (p : ℕ → Bool) (xs ys : List ℕ) → IsPermutation xs ys → list_all p xs ≡ true → list_all p ys ≡ true
all_permuted p xs ys same h = all_of p ys (λ c m. one_of p xs c h (list_any-IsPermutation (nat_eq c) xs ys same ∙ m))

in_line_permuted : (under : ℕ → ℕ → Bool) (xs ys : List ℕ) → IsPermutation xs ys → are_all_in_line under xs ≡ true →
    are_all_in_line under ys ≡ true
in_line_permuted under xs ys same h =
    all_permuted (λ a. list_all (is_either_under under a) ys) xs ys same
    (each (λ a. list_all (is_either_under under a) xs) (λ a. list_all (is_either_under under a) ys) xs
    (λ a k. all_permuted (is_either_under under a) xs ys same k) h)

pub in_line_by_rank : (under : ℕ → ℕ → Bool) (ranks : List ℕ) → IsRankedOrder under ranks → (named sorted : List ℕ) →
    IsPermutation named sorted → IsNonDecreasingBy (rank_in ranks) sorted
    → falls_whole under sorted ≡ are_all_in_line under named
in_line_by_rank under ranks o named sorted same up =
    sorted_tells under ranks o sorted up
    ∙ bool_ext (are_all_in_line under sorted) (are_all_in_line under named) (in_line_permuted under sorted named
    (IsPermutation-sym named sorted same)) (in_line_permuted under named sorted same)

-- the lowest class is one of the greatest rank

pub record IsGreatest (ranks : List ℕ) (best : ℕ) (cs : List ℕ) (m : ℕ) : Type 0 where
  pub there : is_among (best ∷ cs) m ≡ true
  pub least : rank_in ranks best ≤ rank_in ranks m
  pub above : (x : ℕ) → is_among cs x ≡ true → rank_in ranks x ≤ rank_in ranks m

greatest_by : (ranks : List ℕ) (best c : ℕ) (cs : List ℕ) (b : Bool) → nat_lt (rank_in ranks best) (rank_in ranks c) ≡
    b → IsGreatest ranks (cond b c best) cs (greatest ranks (cond b c best) cs)
    → IsGreatest ranks best (c ∷ cs) (greatest ranks (cond b c best) cs)
greatest_by ranks best c cs true e g = record {
  there = or_second (nat_eq (greatest ranks c cs) best) (is_among (c ∷ cs) (greatest ranks c cs)) g.there;
  least = let lt : nat_lt (rank_in ranks best) (rank_in ranks c) ≡ true = e in let up = g.least in grind
      (arith, nat_tests, lt, up);
  above = λ x m. or_cases (nat_eq x c) (is_among cs x) m
      (λ k. subst (λ (y : ℕ). rank_in ranks y ≤ rank_in ranks (greatest ranks c cs)) (sym (same_number x c k))
      g.least) (g.above x);
}
greatest_by ranks best c cs false e g = record {
  there =
      or_cases (nat_eq (greatest ranks best cs) best) (is_among cs (greatest ranks best cs)) g.there
      (λ k. or_first (nat_eq (greatest ranks best cs) best) (is_among (c ∷ cs) (greatest ranks best cs)) k)
      (λ k. or_second (nat_eq (greatest ranks best cs) best) (is_among (c ∷ cs) (greatest ranks best cs))
      (or_second (nat_eq (greatest ranks best cs) c) (is_among cs (greatest ranks best cs)) k));
  least = g.least;
  above = λ x m. or_cases (nat_eq x c) (is_among cs x) m
      (λ k. subst (λ (y : ℕ). rank_in ranks y ≤ rank_in ranks (greatest ranks best cs)) (sym (same_number x c k))
      (let ge : nat_lt (rank_in ranks best) (rank_in ranks c) ≡ false = e in let up = g.least in grind
      (arith, nat_tests, ge, up)))
      (g.above x);
}

pub greatest_is : (ranks : List ℕ) (best : ℕ) (cs : List ℕ) → IsGreatest ranks best cs (greatest ranks best cs)
greatest_is ranks best [] = record {
  there = or_first (nat_eq best best) false (number_same best);
  least = omega arith;
  above = λ x m. cc;
}
greatest_is ranks best (c ∷ cs) =
    greatest_by ranks best c cs (nat_lt (rank_in ranks best) (rank_in ranks c)) refl
    (greatest_is ranks (cond (nat_lt (rank_in ranks best) (rank_in ranks c)) c best) cs)

-- the first that passes, where only one class may pass

kept_by : (p : ℕ → Bool) (x : ℕ) (xs : List ℕ) (b : Bool) → p x ≡ b → first_of (filter p (x ∷ xs)) ≡ cond b (Some x)
    (first_of (filter p xs))
kept_by p x xs true e = rw e refl
kept_by p x xs false e = rw e refl

first_by : (p : ℕ → Bool) (m x : ℕ) (xs : List ℕ) (b : Bool) → p x ≡ b → p m ≡ true → (p x ≡ true → x ≡ m) →
    is_among (x ∷ xs) m ≡ true → (is_among xs m ≡ true → first_of (filter p xs) ≡ Some m)
    → cond b (Some x) (first_of (filter p xs)) ≡ Some m
first_by p m x xs true e pm only there further = ap (λ (y : ℕ). Some y) (only e)
first_by p m x xs false e pm only there further =
    or_cases (nat_eq m x) (is_among xs m) there
    (λ k. absurd (false_true (sym e ∙ subst (λ (y : ℕ). p y ≡ true) (same_number m x k) pm))) further

first_only : (p : ℕ → Bool) (m : ℕ) (xs : List ℕ) → p m ≡ true → ((x : ℕ) → is_among xs x ≡ true → p x ≡ true →
    x ≡ m) → is_among xs m ≡ true → first_of (filter p xs) ≡ Some m
first_only p m [] pm only there = absurd (false_true there)
first_only p m (x ∷ xs) pm only there =
    kept_by p x xs (p x) refl
    ∙ first_by p m x xs (p x) refl pm (only x (or_first (nat_eq x x) (is_among xs x) (number_same x))) there
    (first_only p m xs pm (λ y k. only y (or_second (nat_eq y x) (is_among xs y) k)))

none_first : (p : ℕ → Bool) (xs : List ℕ) → ((x : ℕ) → is_among xs x ≡ true → p x ≡ false) → first_of (filter p xs) ≡
    None
none_first p [] none = refl
none_first p (x ∷ xs) none =
    kept_by p x xs false (none x (or_first (nat_eq x x) (is_among xs x) (number_same x)))
    ∙ none_first p xs (λ y k. none y (or_second (nat_eq y x) (is_among xs y) k))

not_true : (b : Bool) → (b ≡ true → ⊥) → b ≡ false
not_true true f = absurd (f refl)
not_true false f = refl

up_is_same : (ranks : List ℕ) (x m : ℕ) → rank_in ranks x ≤ rank_in ranks m → (x ≡ m)
    ⊎ (rank_in ranks m < rank_in ranks x) → x ≡ m
up_is_same ranks x m le (inl e) = e
up_is_same ranks x m le (inr lt) = absurd (omega (arith, le, lt))

lowest_by : (p : ℕ → Bool) (m : ℕ) (xs : List ℕ) (b : Bool) → p m ≡ b → ((x : ℕ) → is_among xs x ≡ true → p x ≡ true →
    x ≡ m) → is_among xs m ≡ true → first_of (filter p (m ∷ [])) ≡ first_of (filter p xs)
lowest_by p m xs true e only there = kept_by p m [] true e ∙ sym (first_only p m xs e only there)
lowest_by p m xs false e only there =
    kept_by p m [] false e ∙ sym
    (none_first p xs (λ x k. not_true (p x) (λ px. false_true (sym e ∙ subst (λ (y : ℕ). p y ≡ true) (only x k px)
    px))))

there_first : (named : List ℕ) (first : ℕ) → 1 ≤ length named → first ≡ get_or named 0 first → is_among named first ≡
    true
there_first [] first some e = absurd (omega (arith, some))
there_first (x ∷ xs) first some e = or_first (nat_eq first x) (is_among xs first)
    (subst (λ (y : ℕ). nat_eq first y ≡ true) e (number_same first))

there_greatest : (ranks : List ℕ) (named : List ℕ) (first m : ℕ) → is_among named first ≡ true →
    IsGreatest ranks first named m → is_among named m ≡ true
there_greatest ranks named first m h g =
    or_cases (nat_eq m first) (is_among named m) g.there (λ e. subst (λ (y : ℕ). is_among named y ≡ true)
    (sym (same_number m first e)) h) (λ k. k)

lowest_of : (under : ℕ → ℕ → Bool) (ranks : List ℕ) → IsRankedOrder under ranks → (named : List ℕ) (first : ℕ) →
    is_among named first ≡ true
    → lowest_in under (greatest ranks first named ∷ []) named ≡ lowest_in under named named
lowest_of under ranks o named first h =
    let m : ℕ = greatest ranks first named in
    let g : IsGreatest ranks first named m = greatest_is ranks first named in
    let there : is_among named m ≡ true = there_greatest ranks named first m h g in
    lowest_by (λ c. list_all (under c) named) m named (list_all (under m) named) refl
    (λ x k px. up_is_same ranks x m (g.above x k) (o.ranked x m (one_of (under x) named m px there))) there

pub lowest_by_rank : (under : ℕ → ℕ → Bool) (ranks : List ℕ) → IsRankedOrder under ranks →
    (named : List ℕ) (first m : ℕ) → 1 ≤ length named → first ≡ get_or named 0 first → m ≡ greatest ranks first named
    → lowest_in under (m ∷ []) named ≡ lowest_in under named named
lowest_by_rank under ranks o named first m some is e =
    subst (λ (y : ℕ). lowest_in under (y ∷ []) named ≡ lowest_in under named named) (sym e)
    (lowest_of under ranks o named first (there_first named first some is))
