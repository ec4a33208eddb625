-- Octets in order, and numbers that are kept at octets, as those of names are: what contracts that aren't public say of
-- it. What public contracts say is in specs/NameOrder.
use Rattle.std.specs.Prelude.{ℕ, List, Option, None, Some, Bool, cond, map}
use Rattle.std.specs.List.{list_any}
use Rattle.std.specs.Char.{to_ascii_lowercase}
use Rattle.std.specs.Str.{bytes_eq}

-- what was there, else the new number
abbrev pub kept_or : Option ℕ → Bool → ℕ → Option ℕ
kept_or None is n = cond is (Some n) None
kept_or (Some m) is n = Some m

-- one of the names is this one in lower case
abbrev pub has_name : List ℕ → List (List ℕ) → Bool
has_name folded names = list_any (λ n. bytes_eq folded (map to_ascii_lowercase n)) names
