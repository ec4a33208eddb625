-- One step of the loops over walks.
use Rattle.std.proofs.Common.{◌≡◌, ℕ, ◌+◌, ◌<◌, List, [], ◌∷◌, ◌++◌, length, map, take, drop, get_or, set, sym, ap, subst, ◌∙◌, Option}
use Rattle.std.proofs.lemmas.List.{take_more}
use Rattle.std.proofs.lemmas.List.Edits.{map_over_more}
use Rattle.search_plans.specs.private.Streams.{behind, IsLeastHead, lesser}
use Rattle.search_plans.proofs.Together.{least_push}

pub least_step : (ls : List (List ℕ)) (i : ℕ) (x : List ℕ) (best best' : Option ℕ) → i < length ls →
    x ≡ get_or ls i x → best' ≡ lesser best x
    → IsLeastHead best (take i ls) → IsLeastHead best' (take (i + 1) ls)
least_step ls i x best best' lt at is so_far =
    let more : take (i + 1) ls ≡ take i ls ++ x ∷ [] = take_more ls i x lt ∙ ap (λ (y : List ℕ). take i ls ++ y ∷ [])
    (sym at) in
    rw (more, is) (least_push best (take i ls) x so_far)

pub skip_step : (n : ℕ) (old ls : List (List ℕ)) (i : ℕ) (x r : List ℕ) → i < length ls → length ls ≡ length old
    → ls ≡ map (behind n) (take i old) ++ drop i old → x ≡ get_or ls i x → r ≡ behind n x
    → set ls i r ≡ map (behind n) (take (i + 1) old) ++ drop (i + 1) old
skip_step n old ls i x r lt same so_far at is =
    ap (set ls i) is ∙ map_over_more (behind n) old ls i x (subst (λ (k : ℕ). i < k) same lt) so_far at
