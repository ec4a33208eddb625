-- Replies by place.
use Rattle.std.proofs.Common.{◌≡◌, ℕ, zero, suc, ◌+◌, [], ◌∷◌, ◌++◌, length, refl, ap, ap₂, ◌∙◌, arith}
use Rattle.std.proofs.lemmas.Option.{slice_get_past}
use Rattle.dir_store.specs.Updates.{applied, directory_after}
use Rattle.dir_store.specs.Placed.{reply_at, RepliesArePlaced, PlacesJoin}

-- the replies stand at their places
pub placed : RepliesArePlaced
placed d n [] p = slice_get_past [] p (omega arith)
placed d n (u ∷ ops) zero = refl
placed d n (u ∷ ops) (suc p) = placed (applied d (n + 1) u) (n + 1) ops p

none_more : (p : ℕ) → 0 + p ≡ p
none_more p = omega arith

plus_none : (n : ℕ) → n ≡ n + 0
plus_none n = omega arith

one_more : (l p : ℕ) → suc l + p ≡ suc (l + p)
one_more l p = omega arith

one_later : (n l : ℕ) → n + 1 + l ≡ n + suc l
one_later n l = omega arith

-- the replies to what follows stand behind
pub places_join : PlacesJoin
places_join d n [] more p = ap₂ (λ (k q : ℕ). reply_at d k more q) (plus_none n) (none_more p)
places_join d n (u ∷ ops) more p =
    ap (reply_at d n ((u ∷ ops) ++ more)) (one_more (length ops) p)
    ∙ places_join (applied d (n + 1) u) (n + 1) ops more p
    ∙ ap (λ (k : ℕ). reply_at (directory_after (applied d (n + 1) u) (n + 1) ops) k more p) (one_later n (length ops))
