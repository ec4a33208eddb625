-- The latest view, one sender at a time.
use Rattle.std.proofs.Common.{◌≡◌, ℕ, ◌+◌, max, List, [], ◌∷◌, ◌++◌, Some, None, refl, sym, ap, ◌∙◌, arith}
use Rattle.vr_state.specs.declared.message.Response.{Response}
use Rattle.vr_state.specs.Outcome.{indices, noted}
use Rattle.vr_state.specs.Recovery.{latest_view, view_of}
use Rattle.vr_state.proofs.Laws.{indices_more}

-- the latest goes on with one at the end
latest_end : {P : Type 0} (xs : List (ℕ × Response P)) (js : List ℕ) (k : ℕ) → latest_view xs (js ++ k ∷ []) ≡
    max (view_of (noted k xs)) (latest_view xs js)
latest_end xs [] k = refl
latest_end {P} xs (j ∷ js) k = ap (max (view_of (noted j xs))) (latest_end xs js k) ∙ swapped (view_of (noted j xs))
    (view_of (noted k xs)) (latest_view xs js)
  where
    swapped : (a b m : ℕ) → max a (max b m) ≡ max b (max a m)
    swapped a b m = omega arith

-- The latest of one more, of whom something is noted.
pub latest_with : {P : Type 0} (xs : List (ℕ × Response P)) (k m : ℕ) (d : Response P) →
    m ≡ latest_view xs (indices k) → Some d ≡ noted k xs → max d.view_number m ≡ latest_view xs (indices (k + 1))
latest_with {P} xs k m d h e =
    ap (max d.view_number) h ∙ ap (λ o. max (view_of o) (latest_view xs (indices k))) e
    ∙ sym (ap (latest_view xs) (indices_more k) ∙ latest_end xs (indices k) k)

-- The latest of one more, of whom nothing is noted.
pub latest_without : {P : Type 0} (xs : List (ℕ × Response P)) (k m : ℕ) → m ≡ latest_view xs (indices k) →
    None ≡ noted k xs → m ≡ latest_view xs (indices (k + 1))
latest_without {P} xs k m h e =
    h ∙ zero_is (latest_view xs (indices k)) ∙ ap (λ o. max (view_of o) (latest_view xs (indices k))) e
    ∙ sym (ap (latest_view xs) (indices_more k) ∙ latest_end xs (indices k) k)
  where
    zero_is : (x : ℕ) → x ≡ max 0 x
    zero_is x = omega arith
