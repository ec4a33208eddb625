-- Names in order, with the numbers that they stand for.
use Rattle.std.specs.Prelude.{ℕ, List, [], ◌∷◌, ◌≡◌, Option, map}
use Rattle.std.specs.declared.cmp.Ordering.TheVariants.{Less}
use Rattle.std.specs.Map.{lookup}
use Rattle.std.specs.Str.{bytes_eq}
use Rattle.std.specs.List.{AllByRecursion}
use Rattle.std.specs.Char.{to_ascii_lowercase}
pub use Rattle.ldap_words.specs.NameOrder.{order, lower}
pub use Rattle.ldap_words.specs.private.NameOrder.{kept_or, has_name}

-- the number that is kept at a name
abbrev pub number_at : List (List ℕ × ℕ) → List ℕ → Option ℕ
number_at entries name = lookup (bytes_eq name) entries

-- the name of the first is before the name of the second
abbrev pub IsBefore : List ℕ × ℕ → List ℕ × ℕ → Type 0
IsBefore a b = order a.0 b.0 ≡ Less

-- each name is before those behind it
abbrev pub IsInOrder : List (List ℕ × ℕ) → Type 0
IsInOrder [] = Unit {0}
IsInOrder (e ∷ es) = AllByRecursion (IsBefore e) es × IsInOrder es

-- names in lower case, and object identifiers as they are, each with its number
pub record IndexModel : Type 0 where
  pub names : List (List ℕ × ℕ)
  pub oids : List (List ℕ × ℕ)

-- the lower one of the numbers that a description has as a name and as an object identifier (RFC 4512 1.4)
abbrev pub find_in : IndexModel → List ℕ → Option ℕ
find_in m d = lower (number_at m.names (map to_ascii_lowercase d)) (number_at m.oids d)
