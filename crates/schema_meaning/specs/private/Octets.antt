-- Numbers that are kept at octets, and what is found by a word in any case.
use Rattle.std.specs.Prelude.{ℕ, List, [], ◌∷◌, ◌≡◌, Option, Vec, map}
use Rattle.std.specs.declared.cmp.Ordering.TheVariants.{Less}
use Rattle.std.specs.List.{AllByRecursion}
use Rattle.std.specs.Char.{to_ascii_lowercase}
use Rattle.std.specs.declared.alloc.Global.{Global}
pub use Rattle.schema_text.specs.ldap_words.NameOrder.{order, number_at, lower}
pub use Rattle.schema_text.specs.ldap_words.private.NameOrder.{kept_or, has_name as has_folded}

-- the lower one of the numbers that a word has as a name and as an object identifier (RFC 4512 1.4)
abbrev pub found_in : List (Vec ℕ Global × ℕ) → List (Vec ℕ Global × ℕ) → List ℕ → Option ℕ
found_in names oids w = lower (number_at names (map to_ascii_lowercase w)) (number_at oids w)

-- the octets of the first are before those of the second
abbrev pub IsBefore : Vec ℕ Global × ℕ → Vec ℕ Global × ℕ → Type 0
IsBefore a b = order a.0.items b.0.items ≡ Less

-- each entry's octets are before those behind it
abbrev pub IsInOrder : List (Vec ℕ Global × ℕ) → Type 0
IsInOrder [] = Unit {0}
IsInOrder (e ∷ es) = AllByRecursion (IsBefore e) es × IsInOrder es
