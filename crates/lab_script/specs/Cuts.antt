-- Texts cut in two.
use Rattle.std.specs.Prelude.{ℕ, ◌+◌, List, [], ◌∷◌, ◌++◌, take, drop, position, Bool, false, ◌&&◌, cond, nat_eq, Option, None, Some, option_map}

-- a text cut in two, without what it was cut at
pub record Cut : Type 0 where
  pub front : List ℕ
  pub behind : List ℕ

-- a text cut at the octet of this place
abbrev pub cut_at : List ℕ → ℕ → Cut
cut_at text i = record { front = take i text; behind = drop (i + 1) text }

-- A text cut at the first of an octet; none, where it has none.
abbrev pub cut : ℕ → List ℕ → Option Cut
cut octet text = option_map (cut_at text) (position (nat_eq octet) text)

-- whether a colon and a space stand at the front
abbrev pub begins_value : List ℕ → Bool
begins_value [] = false
begins_value (c ∷ []) = false
begins_value (c ∷ d ∷ rest) = nat_eq c 58 && nat_eq d 32

-- more at the front of a cut
abbrev pub onto : List ℕ → Cut → Cut
onto more k = record { front = more ++ k.front; behind = k.behind }

-- A text cut at its first colon with a space behind it; none, where it has none.
abbrev pub cut_pair : List ℕ → Option Cut
cut_pair [] = None
cut_pair (c ∷ cs) = cond (begins_value (c ∷ cs)) (Some (record { front = []; behind = drop 1 cs }))
    (option_map (onto (c ∷ [])) (cut_pair cs))

-- what stands behind the spaces at the front
abbrev pub behind_spaces : List ℕ → List ℕ
behind_spaces [] = []
behind_spaces (c ∷ cs) = cond (nat_eq c 32) (behind_spaces cs) (c ∷ cs)
