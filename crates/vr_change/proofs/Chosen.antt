-- The best and the most, one sender at a time.
use Rattle.std.proofs.Common.{◌≡◌, ℕ, zero, suc, ◌+◌, ◌<◌, ◌≤◌, ◌⊎◌, inl, inr, max, List, [], ◌∷◌, ◌++◌, length, drop, Option, Some, None, refl, sym, ap, ◌∙◌, arith}
use Rattle.std.proofs.Math.Seq.{drop-append_seam, drop-append-add, drop-length}
use Rattle.std.proofs.lemmas.Bool.{cases_lt}
use Rattle.std.proofs.lemmas.List.{drop-append-le}
use Rattle.vr_state.specs.declared.message.Change.{Change}
use Rattle.vr_state.specs.Outcome.{indices, noted}
use Rattle.vr_state.specs.ViewChange.{best, prefer, most, commit_of}
use Rattle.vr_state.proofs.Laws.{length_indices, indices_more}

-- The indices from one on begin with it.
indices_from : (j n : ℕ) → j < n → drop j (indices n) ≡ j ∷ drop (suc j) (indices n)
indices_from j zero h = absurd (omega arith)
indices_from j (suc n) h = go (indices_from j n) (cases_lt j n)
  where
    go : (j < n → drop j (indices n) ≡ j ∷ drop (suc j) (indices n)) → (j < n) ⊎ (n ≤ j) →
        drop j (indices n ++ n ∷ []) ≡ j ∷ drop (suc j) (indices n ++ n ∷ [])
    go ih (inl lt) =
        drop-append-le j (indices n) (n ∷ []) (omega (arith, length_indices n))
        ∙ ap (λ l. l ++ n ∷ []) (ih lt)
        ∙ ap (λ l. j ∷ l) (sym (drop-append-le (suc j) (indices n) (n ∷ []) (omega (arith, length_indices n))))
    go ih (inr le) =
        let here : j ≡ length (indices n) = omega (arith, length_indices n) in
        let past : suc j ≡ length (indices n) + 1 = omega (arith, length_indices n) in
        let same : n ≡ j = omega arith in
        ap (λ (k : ℕ). drop k (indices n ++ n ∷ [])) here ∙ drop-append_seam (indices n) (n ∷ [])
        ∙ ap (λ k. k ∷ []) same
        ∙ ap (λ l. j ∷ l) (sym (ap (λ (k : ℕ). drop k (indices n ++ n ∷ [])) past ∙ drop-append-add (indices n)
        (n ∷ []) 1))

-- The best of one more, which comes before the rest.
pub best_with : {P : Type 0} (xs : List (ℕ × Change P)) (k m n : ℕ) (b : Option (Change P)) →
    b ≡ best xs (drop m (indices n)) → m ≡ k + 1 → k < n → prefer (noted k xs) b ≡ best xs (drop k (indices n))
best_with {P} xs k m n b h e lt =
    let next : m ≡ suc k = omega arith in
    ap (prefer (noted k xs)) (h ∙ ap (λ (j : ℕ). best xs (drop j (indices n))) next)
    ∙ sym (ap (best xs) (indices_from k n lt))

-- the most goes on with one at the end
most_end : {P : Type 0} (xs : List (ℕ × Change P)) (js : List ℕ) (k : ℕ) → most xs (js ++ k ∷ []) ≡
    max (commit_of (noted k xs)) (most xs js)
most_end xs [] k = refl
most_end {P} xs (j ∷ js) k = ap (max (commit_of (noted j xs))) (most_end xs js k) ∙ swapped (commit_of (noted j xs))
    (commit_of (noted k xs)) (most xs js)
  where
    swapped : (a b m : ℕ) → max a (max b m) ≡ max b (max a m)
    swapped a b m = omega arith

-- The most of one more, of whom something is noted.
pub most_with : {P : Type 0} (xs : List (ℕ × Change P)) (k m : ℕ) (d : Change P) → m ≡ most xs (indices k) →
    Some d ≡ noted k xs → max d.commit_number m ≡ most xs (indices (k + 1))
most_with {P} xs k m d h e =
    ap (max d.commit_number) h ∙ ap (λ o. max (commit_of o) (most xs (indices k))) e
    ∙ sym (ap (most xs) (indices_more k) ∙ most_end xs (indices k) k)

-- The most of one more, of whom nothing is noted.
pub most_without : {P : Type 0} (xs : List (ℕ × Change P)) (k m : ℕ) → m ≡ most xs (indices k) → None ≡ noted k xs →
    m ≡ most xs (indices (k + 1))
most_without {P} xs k m h e =
    h ∙ zero_is (most xs (indices k)) ∙ ap (λ o. max (commit_of o) (most xs (indices k))) e
    ∙ sym (ap (most xs) (indices_more k) ∙ most_end xs (indices k) k)
  where
    zero_is : (x : ℕ) → x ≡ max 0 x
    zero_is x = omega arith

-- At first there is none.
pub best_none : {P : Type 0} (xs : List (ℕ × Change P)) (n : ℕ) → None ≡ best xs (drop n (indices n))
best_none xs n = sym (ap (best xs) (all (indices n) n (sym (length_indices n))))
  where
    all : (js : List ℕ) (m : ℕ) → m ≡ length js → drop m js ≡ []
    all js m e = ap (λ (k : ℕ). drop k js) e ∙ drop-length js
