-- Names: lists of relative names, each a set of types with keys. RFC 4512 2.3.
use Rattle.std.specs.Prelude.{ℕ, List, [], ◌∷◌, ◌++◌, map, Bool, true, false, ◌&&◌, nat_eq, ◌≡◌}
use Rattle.std.specs.Cmp.Lexicographic.{pointwise}
use Rattle.std.specs.Str.{bytes_eq}

-- a type and the octets of a value of it, as they were written
pub record TypeAndValue : Type 0 where
  pub kind : ℕ
  pub value : List ℕ

-- a type and the key of a value of it under the type's EQUALITY rule
pub record TypeAndKey : Type 0 where
  pub kind : ℕ
  pub key : List ℕ

-- A relative name (RFC 4512 2.3.1): its types with their keys in rising order of type, each type once, and beside them
-- its types with their values in the order written.
pub record RdnModel : Type 0 where
  pub keys : List TypeAndKey
  pub spelling : List TypeAndValue

-- what a name is, whatever its spelling: its relative names as sets, root first (RFC 4512 2.3.2)
abbrev pub rdns : List RdnModel → List (List TypeAndKey)
rdns name = map (λ r. r.keys) name

-- two names are one: their relative names are the same sets (RFC 4517 4.2.15)
abbrev pub IsSameName : List RdnModel → List RdnModel → Type 0
IsSameName a b = rdns a ≡ rdns b

-- a name stands strictly below another: it is the other's relative names followed by at least one more
abbrev pub IsBelow : List RdnModel → List RdnModel → Type 0
IsBelow a b = (first : List TypeAndKey) × (rest : List (List TypeAndKey)) × (rdns a ≡ rdns b ++ first ∷ rest)

-- whether lists of types and keys are the same
abbrev pub are_same_keys : List TypeAndKey → List TypeAndKey → Bool
are_same_keys [] [] = true
are_same_keys (x ∷ xs) (y ∷ ys) = nat_eq x.kind y.kind && bytes_eq x.key y.key && are_same_keys xs ys
are_same_keys xs ys = false

-- whether two names are one, by what `rdns` gives of them (RFC 4517 4.2.15)
abbrev pub name_eq : List (List TypeAndKey) → List (List TypeAndKey) → Bool
name_eq = pointwise are_same_keys

-- whether a name is the front of another, its own whole included
abbrev pub is_front : List RdnModel → List RdnModel → Bool
is_front [] b = true
is_front (x ∷ xs) [] = false
is_front (x ∷ xs) (y ∷ ys) = are_same_keys x.keys y.keys && is_front xs ys
