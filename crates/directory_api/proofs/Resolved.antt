-- What is looked up among the types that selectors name: a step of a chain of SUPs, one more type, one more selector.
use Rattle.std.proofs.Common.{ℕ, ◌+◌, ◌-◌, ◌<◌, zero, suc, List, [], ◌∷◌, Bool, true, false, ◌||◌, cond, None, Some, ◌≡◌, refl, ap, ap₂, ◌∙◌, nat_eq, arith}
use Rattle.std.specs.List.{list_any}
use Rattle.std.specs.Ordering.{is_eq, nat_cmp}
use Rattle.std.proofs.lemmas.Bool.{or_left}
use Rattle.std.proofs.lemmas.Bool.Decides.{nat_tests}
use Rattle.dir_tree.specs.ldap_schema.Schema.{TypeModel, superior_of, superiors}

-- one step up a chain
one_up : (ts : List TypeModel) (t u k m : ℕ) → k ≡ suc m → superior_of ts t ≡ Some u → superiors k ts t ≡
    u ∷ superiors m ts u
one_up ts t u k m e is = ap (λ (n : ℕ). superiors n ts t) e ∙ rw is refl

no_way_up : (k : ℕ) (ts : List TypeModel) (t : ℕ) → superior_of ts t ≡ None → superiors k ts t ≡ []
no_way_up zero ts t is = refl
no_way_up (suc k) ts t is = rw is refl

or_later : (a b : Bool) → a ≡ false → (a || b) ≡ b
or_later a b e = rw e refl

-- a chain that ends leads to none
pub ends_above : (h : ℕ → Bool) (ts : List TypeModel) (k t : ℕ) → superior_of ts t ≡ None →
    list_any h (superiors k ts t) ≡ false
ends_above h ts k t is = ap (list_any h) (no_way_up k ts t is)

-- the type above is one
pub found_above : (h : ℕ → Bool) (ts : List TypeModel) (n i t u : ℕ) → i < n → superior_of ts t ≡ Some u →
    h u ≡ true → list_any h (superiors (n - i) ts t) ≡ true
found_above h ts n i t u lt is found =
    ap (list_any h) (one_up ts t u (n - i) (n - (i + 1)) (omega (arith, lt)) is)
    ∙ or_left (h u) (list_any h (superiors (n - (i + 1)) ts u)) found

-- the type above is none: the chain goes on
pub passed_above : (h : ℕ → Bool) (ts : List TypeModel) (n i t u : ℕ) → i < n → superior_of ts t ≡ Some u →
    h u ≡ false → list_any h (superiors (n - i) ts t) ≡ list_any h (superiors (n - (i + 1)) ts u)
passed_above h ts n i t u lt is missed =
    ap (list_any h) (one_up ts t u (n - i) (n - (i + 1)) (omega (arith, lt)) is)
    ∙ or_later (h u) (list_any h (superiors (n - (i + 1)) ts u)) missed

pub spent_above : (h : ℕ → Bool) (ts : List TypeModel) (k t : ℕ) → k ≡ 0 → list_any h (superiors k ts t) ≡ false
spent_above h ts k t e = ap (λ (n : ℕ). list_any h (superiors n ts t)) e

-- one more in the set
any_more : (was now : ℕ → Bool) (u : ℕ) → ((q : ℕ) → now q ≡ (was q || nat_eq q u)) → (xs : List ℕ) →
    list_any now xs ≡ (list_any was xs || list_any (λ x. nat_eq x u) xs)
any_more was now u step [] = refl
any_more was now u step (x ∷ xs) = ap₂ (λ (a b : Bool). a || b) (step x) (any_more was now u step xs)
    ∙ mixed (was x) (nat_eq x u) (list_any was xs) (list_any (λ x. nat_eq x u) xs)
  where
    mixed : (a b c d : Bool) → ((a || b) || (c || d)) ≡ ((a || c) || (b || d))
    mixed true b c d = refl
    mixed false true true d = refl
    mixed false true false d = refl
    mixed false false c d = refl

pub named_more : (was now : ℕ → Bool) (u t : ℕ) (xs : List ℕ) → ((q : ℕ) → now q ≡ (was q || nat_eq q u))
    → (now t || list_any now xs) ≡ ((was t || list_any was xs) || (nat_eq t u || list_any (λ x. nat_eq x u) xs))
named_more was now u t xs step = any_more was now u step (t ∷ xs)

-- numbers that compare equal are one
same_number : (u q : ℕ) → is_eq (nat_cmp u q) ≡ nat_eq q u
same_number u q = grind (arith, nat_tests)

-- a set with one more number
pub set_more : (k u : ℕ) (was now : ℕ → Bool) → k ≡ u → ((q : ℕ) → now q ≡ cond (is_eq (nat_cmp k q)) true (was q)) →
    (q : ℕ) → now q ≡ (was q || nat_eq q u)
set_more k u was now same step q =
    step q ∙ ap (λ (z : ℕ). cond (is_eq (nat_cmp z q)) true (was q)) same ∙ ap (λ (b : Bool). cond b true (was q))
    (same_number u q) ∙ flipped (nat_eq q u) (was q)
  where
    flipped : (a b : Bool) → cond a true b ≡ (b || a)
    flipped true true = refl
    flipped true false = refl
    flipped false true = refl
    flipped false false = refl

none_held : (h : ℕ → Bool) → ((q : ℕ) → h q ≡ false) → (xs : List ℕ) → list_any h xs ≡ false
none_held h none [] = refl
none_held h none (x ∷ xs) = rw (none x, none_held h none xs) refl

-- before any selector, over an empty set
pub nothing_yet : (all none : Bool) (h : ℕ → Bool) (t : ℕ) (xs : List ℕ) → all ≡ none → ((q : ℕ) → h q ≡ false) →
    (all || (h t || list_any h xs)) ≡ (none || false)
nothing_yet all none h t xs same empty = ap₂ (λ (a b : Bool). a || b) same (none_held h empty (t ∷ xs))
