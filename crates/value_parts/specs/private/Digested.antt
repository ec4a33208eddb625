-- Lists with digests.
use Rattle.std.specs.Prelude.{◌≡◌, ℕ, List, [], ◌∷◌, map}
use Rattle.value_parts.specs.Digests.{digest_of}
use Rattle.value_parts.specs.KeptParts.{as_part, HaveTexts}
use Rattle.value_parts.specs.declared.lists.Lists.{Lists}

-- what digests are of: the keys, or the values where there are no keys
abbrev pub compared : List (List ℕ) → List (List ℕ) → List (List ℕ)
compared values [] = values
compared values (k ∷ ks) = k ∷ ks

-- The digests of lists are those of what values are compared by, and their texts are those of the values.
pub record IsDigested (lists : Lists) (kept : List ℕ) : Type 0 where
  pub digests : kept ≡ map digest_of (compared lists.values.items lists.keys.items)
  pub texts : HaveTexts (as_part lists)
