-- Loops over tables, a step at a time.
use Rattle.std.proofs.Common.{ℕ, ◌+◌, ◌-◌, ◌<◌, zero, suc, List, [], ◌∷◌, ◌++◌, Bool, true, false, ◌||◌, None, Some, ◌≡◌, refl, ap, sym, ◌∙◌, map, length, nat_eq, drop, get_or, append_assoc, arith}
use Rattle.std.specs.List.{list_any, position_from}
use Rattle.ldap_schema.specs.Schema.{TypeModel, superior_of, superiors}
pub use Rattle.ldap_words.proofs.NumbersKept.{opened}

pub found_here : {A : Type 0} (p : A → Bool) (xs : List A) (i : ℕ) (x : A) → i < length xs → x ≡ get_or xs i x →
    p x ≡ true → position_from p i (drop i xs) ≡ Some i
found_here p xs i x lt is h = rw (opened xs i x lt is, h) refl

pub found_later : {A : Type 0} (p : A → Bool) (xs : List A) (i : ℕ) (x : A) → i < length xs → x ≡ get_or xs i x →
    p x ≡ false → position_from p i (drop i xs) ≡ position_from p (i + 1) (drop (i + 1) xs)
found_later p xs i x lt is h = rw (opened xs i x lt is, h) refl

pub list_any-map : {A B : Type 0} (p : B → Bool) (f : A → B) (xs : List A) → list_any p (map f xs) ≡
    list_any (λ x. p (f x)) xs
list_any-map p f [] = refl
list_any-map p f (x ∷ xs) = rw (list_any-map p f xs) refl

pub pushed_out : {A C : Type 0} (f : A → C) (old : List A) (x : A) (t : List C) → map f (old ++ x ∷ []) ++ t ≡
    map f old ++ f x ∷ t
pushed_out f [] x t = refl
pushed_out f (o ∷ old) x t = ap (λ (z : List _). f o ∷ z) (pushed_out f old x t)

pub one_up : (m k : ℕ) (ts : List TypeModel) (t u : ℕ) → m ≡ suc k → superior_of ts t ≡ Some u → superiors m ts t ≡
    u ∷ superiors k ts u
one_up m k ts t u e is = rw (e, is) refl

pub step_up : (n i : ℕ) (ts : List TypeModel) (t u : ℕ) (old new all : List ℕ) → i < n → superior_of ts t ≡ Some u →
    new ≡ old ++ u ∷ [] → old ++ superiors (n - i) ts t ≡ all → new ++ superiors (n - (i + 1)) ts u ≡ all
step_up n i ts t u old new all lt is pushed so_far =
    ap (λ (z : List ℕ). z ++ superiors (n - (i + 1)) ts u) pushed
    ∙ append_assoc old (u ∷ []) (superiors (n - (i + 1)) ts u)
    ∙ ap (λ (z : List ℕ). old ++ z) (sym (one_up (n - i) (n - (i + 1)) ts t u (omega arith) is))
    ∙ so_far

-- what is sought is not the type one step up: it is sought from there on
pub sought_up : (n i : ℕ) (ts : List TypeModel) (t u b : ℕ) (whole : Bool) → i < n → superior_of ts t ≡ Some u →
    nat_eq u b ≡ false → list_any (λ x. nat_eq x b) (superiors (n - i) ts t) ≡ whole
    → list_any (λ x. nat_eq x b) (superiors (n - (i + 1)) ts u) ≡ whole
sought_up n i ts t u b whole lt is other so_far =
    sym (ap (λ (z : Bool). z || list_any (λ (x : ℕ). nat_eq x b) (superiors (n - (i + 1)) ts u)) other)
    ∙ sym (ap (list_any (λ (x : ℕ). nat_eq x b)) (one_up (n - i) (n - (i + 1)) ts t u (omega arith) is))
    ∙ so_far

pub no_way_up : (m : ℕ) (ts : List TypeModel) (t : ℕ) → superior_of ts t ≡ None → superiors m ts t ≡ []
no_way_up zero ts t is = refl
no_way_up (suc k) ts t is = rw is refl

pub or_false : (a b r : Bool) → false ≡ a → r ≡ b → r ≡ (a || b)
or_false true b r h e = absurd (cc)
or_false false b r h e = e

pub append-nil : {A : Type 0} (xs : List A) → xs ++ [] ≡ xs
append-nil [] = refl
append-nil (x ∷ xs) = ap (λ (y : List _). x ∷ y) (append-nil xs)

pub without_rest : {A : Type 0} (xs rest all : List A) → rest ≡ [] → xs ++ rest ≡ all → xs ≡ all
without_rest xs rest all e h = sym (append-nil xs) ∙ ap (λ (y : List _). xs ++ y) (sym e) ∙ h

pub no_more : (m : ℕ) (ts : List TypeModel) (t : ℕ) → m ≡ 0 → superiors m ts t ≡ []
no_more m ts t e = rw e refl
