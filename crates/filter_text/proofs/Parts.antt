-- Filter texts, scanning: parts with a separator between them, and an oid before options.
use Rattle.std.proofs.Common.{◌≡◌, ℕ, ◌+◌, List, [], ◌∷◌, length, take, drop, Bool, suc, true, false, cond, ◌&&◌, not, None, Some, nat_eq, nat_lt, refl, sym, ap, ◌∙◌, arith}
use Rattle.std.specs.List.{list_all, slice_split, onto_first, position_or_len}
use Rattle.std.proofs.lemmas.Bool.{lt-ltb, ltb-true, le-ltb, ltb-false}
use Rattle.filter_text.specs.Descriptions.{is_option, is_oid, is_described, is_description}

-- the first part passes one test, and the others another
abbrev pub parts : (List ℕ → Bool) → (List ℕ → Bool) → List (List ℕ) → Bool
parts f g [] = f [] && true
parts f g (x ∷ xs) = f x && list_all g xs

pub onto : (f h g : List ℕ → Bool) (c : ℕ) → ((x : List ℕ) → f (c ∷ x) ≡ h x) → (ys : List (List ℕ)) →
    parts f g (onto_first c ys) ≡ parts h g ys
onto f h g c e [] = ap (λ b. b && true) (e [])
onto f h g c e (y ∷ ys) = ap (λ b. b && list_all g ys) (e y)

pub onto_never : (f g : List ℕ → Bool) (c : ℕ) → ((x : List ℕ) → f (c ∷ x) ≡ false) → (ys : List (List ℕ)) →
    parts f g (onto_first c ys) ≡ false
onto_never f g c e [] = ap (λ b. b && true) (e [])
onto_never f g c e (y ∷ ys) = ap (λ b. b && list_all g ys) (e y)

onto_all : (g : List ℕ → Bool) (c : ℕ) (ys : List (List ℕ)) → parts g g (onto_first c ys) ≡ list_all g (onto_first c ys)
onto_all g c [] = refl
onto_all g c (y ∷ ys) = refl

all_at : (g : List ℕ → Bool) (b : Bool) (c : ℕ) (ys : List (List ℕ)) →
    parts g g (cond b ([] ∷ ys) (onto_first c ys)) ≡ list_all g (cond b ([] ∷ ys) (onto_first c ys))
all_at g true c ys = refl
all_at g false c ys = onto_all g c ys

-- with one test it is the test of all
pub parts_all : (g : List ℕ → Bool) (k : ℕ) (cs : List ℕ) → parts g g (slice_split (λ x. nat_eq x k) cs) ≡
    list_all g (slice_split (λ x. nat_eq x k) cs)
parts_all g k [] = refl
parts_all g k (c ∷ cs) = all_at g (nat_eq c k) c (slice_split (λ x. nat_eq x k) cs)

-- ---- what stands before the first `;`, and the options behind it

abbrev pub options : List ℕ → Bool
options cs = list_all is_option (slice_split (λ c. nat_eq c 59) cs)

abbrev pub described : (List ℕ → Bool) → List ℕ → Bool
described f [] = f []
described f (c ∷ cs) = cond (nat_eq c 59) (f [] && options cs) (described (λ x. f (c ∷ x)) cs)

described_same_at : (b : Bool) (f g : List ℕ → Bool) (c : ℕ) (cs : List ℕ) → f [] ≡ g [] → described (λ x. f (c ∷ x))
    cs ≡ described (λ x. g (c ∷ x)) cs
    → cond b (f [] && options cs) (described (λ x. f (c ∷ x)) cs) ≡ cond b (g [] && options cs)
    (described (λ x. g (c ∷ x)) cs)
described_same_at true f g c cs e h = ap (λ b. b && options cs) e
described_same_at false f g c cs e h = h

pub described_same : (f g : List ℕ → Bool) → ((x : List ℕ) → f x ≡ g x) → (cs : List ℕ) → described f cs ≡
    described g cs
described_same f g e [] = e []
described_same f g e (c ∷ cs) = described_same_at (nat_eq c 59) f g c cs (e []) (described_same (λ x. f (c ∷ x))
    (λ x. g (c ∷ x)) (λ x. e (c ∷ x)) cs)

described_never_at : (b : Bool) (f : List ℕ → Bool) (c : ℕ) (cs : List ℕ) → f [] ≡ false → described (λ x. f (c ∷ x))
    cs ≡ false → cond b (f [] && options cs) (described (λ x. f (c ∷ x)) cs) ≡ false
described_never_at true f c cs e h = ap (λ b. b && options cs) e
described_never_at false f c cs e h = h

pub described_never : (f : List ℕ → Bool) → ((x : List ℕ) → f x ≡ false) → (cs : List ℕ) → described f cs ≡ false
described_never f e [] = e []
described_never f e (c ∷ cs) = described_never_at (nat_eq c 59) f c cs (e []) (described_never (λ x. f (c ∷ x))
    (λ x. e (c ∷ x)) cs)

-- ---- the same by the place of the first `;`

abbrev semicolon : ℕ → Bool
semicolon c = nat_eq c 59

abbrev by_place : (List ℕ → Bool) → List ℕ → ℕ → Bool
by_place f d n = cond (nat_lt n (length d)) (f (take n d) && options (drop (n + 1) d)) (f d)

lt_more : (b : Bool) (n m : ℕ) → nat_lt n m ≡ b → nat_lt (suc n) (suc m) ≡ b
lt_more true n m e = lt-ltb (suc n) (suc m) (omega (arith, ltb-true n m e))
lt_more false n m e = le-ltb (suc n) (suc m) (omega (arith, ltb-false n m e))

one_more : (f : List ℕ → Bool) (c n : ℕ) (d : List ℕ) → by_place f (c ∷ d) (1 + n) ≡ by_place (λ x. f (c ∷ x)) d n
one_more f c n d =
    let p : 1 + n ≡ suc n = omega arith in
    let q : suc n + 1 ≡ suc (n + 1) = omega arith in
    rw (p, q) (ap (λ b. cond b (f (c ∷ take n d) && options (drop (n + 1) d)) (f (c ∷ d)))
    (lt_more (nat_lt n (length d)) n (length d) refl))

place_at : (b : Bool) (f : List ℕ → Bool) (c : ℕ) (d : List ℕ) → described (λ x. f (c ∷ x)) d ≡
    by_place (λ x. f (c ∷ x)) d (position_or_len semicolon d)
    → cond b (f [] && options d) (described (λ x. f (c ∷ x)) d) ≡ by_place f (c ∷ d)
    (cond (not b) (1 + position_or_len semicolon d) 0)
place_at true f c d h = sym (ap (λ b. cond b (f [] && options d) (f (c ∷ d))) (lt-ltb 0 (length (c ∷ d)) (omega arith)))
place_at false f c d h = h ∙ sym (one_more f c (position_or_len semicolon d) d)

described_place : (f : List ℕ → Bool) (d : List ℕ) → described f d ≡ by_place f d (position_or_len semicolon d)
described_place f [] = refl
described_place f (c ∷ d) = place_at (nat_eq c 59) f c d (described_place (λ x. f (c ∷ x)) d)

described_is_at : (b : Bool) (d : List ℕ) (n : ℕ) → cond b (is_oid (take n d) && options (drop (n + 1) d))
    (is_oid d) ≡ is_described d (cond b (Some n) None)
described_is_at true d n = refl
described_is_at false d n = refl

pub described_is : (d : List ℕ) → described is_oid d ≡ is_description d
described_is d = described_place is_oid d ∙ described_is_at (nat_lt (position_or_len semicolon d) (length d)) d
    (position_or_len semicolon d)
