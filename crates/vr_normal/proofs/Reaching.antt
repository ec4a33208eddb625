-- What f others have acknowledged, one by one.
use Rattle.std.proofs.Common.{◌≡◌, ◌≢◌, ℕ, ◌+◌, ◌<◌, ◌≤◌, max, nat_le, Bool, true, false, cond, List, [], ◌∷◌, ◌++◌, slice_index, refl, sym, ap, ◌∙◌, subst, arith, le-leb}
use Rattle.std.proofs.lemmas.Bool.{lt-leb}
use Rattle.vr_state.specs.Outcome.{count, tick, others}
use Rattle.vr_state.specs.NormalCase.{reached}
use Rattle.vr_state.proofs.Laws.{count_end, others_with, others_without}

-- One more of the others passes.
pub count_with : (p : ℕ → Bool) (i k n : ℕ) → n ≡ count p (others k i) → k ≢ i → p k ≡ true →
    n + 1 ≡ count p (others (k + 1) i)
count_with p i k n h ne e =
    ap (λ x. x + 1) h ∙ sym (ap (count p) (others_with i k ne)
    ∙ (count_end p (others k i) k ∙ ap (λ t. tick t (count p (others k i))) e))

-- One more of the others doesn't pass.
pub count_without : (p : ℕ → Bool) (i k n : ℕ) → n ≡ count p (others k i) → k ≢ i → p k ≡ false →
    n ≡ count p (others (k + 1) i)
count_without p i k n h ne e =
    h ∙ sym (ap (count p) (others_with i k ne) ∙ (count_end p (others k i) k ∙ ap (λ t. tick t (count p (others k i)))
    e))

-- i itself isn't counted.
pub count_same : (p : ℕ → Bool) (i k n : ℕ) → n ≡ count p (others k i) → k ≡ i → n ≡ count p (others (k + 1) i)
count_same p i k n h e = h ∙ sym (ap (count p) (others_without i k e))

-- the most, with or without one
abbrev pub most_of : Bool → ℕ → ℕ → ℕ
most_of b x y = cond b (max x y) y

-- what is reached goes on with one at the end
reached_end : (f : ℕ) (a all js : List ℕ) (k : ℕ) → reached f a all (js ++ k ∷ []) ≡
    most_of (nat_le f (count (λ j. nat_le (slice_index a k) (slice_index a j)) all)) (slice_index a k)
    (reached f a all js)
reached_end f a all [] k = refl
reached_end f a all (x ∷ js) k = ap (most_of (nat_le f (count (λ j. nat_le (slice_index a x) (slice_index a j)) all))
    (slice_index a x)) (reached_end f a all js k)
    ∙ go (nat_le f (count (λ j. nat_le (slice_index a x) (slice_index a j)) all))
    (nat_le f (count (λ j. nat_le (slice_index a k) (slice_index a j)) all)) (slice_index a x) (slice_index a k)
    (reached f a all js)
  where
    go : (s t : Bool) (x y z : ℕ) → most_of s x (most_of t y z) ≡ most_of t y (most_of s x z)
    go true true x y z = omega arith
    go true false x y z = refl
    go false true x y z = refl
    go false false x y z = refl

-- One more of the others has what f of them have.
pub reached_with : (f : ℕ) (a all : List ℕ) (i k m n : ℕ) → m ≡ reached f a all (others k i) → k ≢ i →
    n ≡ count (λ j. nat_le (slice_index a k) (slice_index a j)) all → f ≤ n → max (slice_index a k) m ≡
    reached f a all (others (k + 1) i)
reached_with f a all i k m n h ne e enough =
    let w : f ≤ count (λ j. nat_le (slice_index a k) (slice_index a j)) all = subst (λ (y : ℕ). f ≤ y) e enough in
    ap (max (slice_index a k)) h
    ∙ sym (ap (reached f a all) (others_with i k ne) ∙ (reached_end f a all (others k i) k
    ∙ ap (λ t. most_of t (slice_index a k) (reached f a all (others k i))) (le-leb f _ w)))

-- One more of the others has more than f of them have.
pub reached_without : (f : ℕ) (a all : List ℕ) (i k m n : ℕ) → m ≡ reached f a all (others k i) → k ≢ i →
    n ≡ count (λ j. nat_le (slice_index a k) (slice_index a j)) all → n < f → m ≡ reached f a all (others (k + 1) i)
reached_without f a all i k m n h ne e few =
    let w : count (λ j. nat_le (slice_index a k) (slice_index a j)) all < f = subst (λ (y : ℕ). y < f) e few in
    h
    ∙ sym (ap (reached f a all) (others_with i k ne) ∙ (reached_end f a all (others k i) k
    ∙ ap (λ t. most_of t (slice_index a k) (reached f a all (others k i))) (lt-leb f _ w)))

-- i itself is left out.
pub reached_same : (f : ℕ) (a all : List ℕ) (i k m : ℕ) → m ≡ reached f a all (others k i) → k ≡ i →
    m ≡ reached f a all (others (k + 1) i)
reached_same f a all i k m h e = h ∙ sym (ap (reached f a all) (others_without i k e))
