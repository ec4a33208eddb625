-- The key of a name as a value: octets by which names are told apart.
use Rattle.std.specs.Prelude.{ℕ, List, [], ◌∷◌, ◌++◌, reverse, ◌≡◌, ◌↔◌}
use Rattle.std.specs.Int.Digits.{digits_of}
use Rattle.ldap_dn.specs.Names.{TypeAndKey, RdnModel, rdns, IsSameName}

-- things one after another: a 1 before each, and a 0 behind the last
abbrev pub listed : {A : Type 0} → (A → List ℕ) → List A → List ℕ
listed f [] = 0 ∷ []
listed f (x ∷ xs) = 1 ∷ f x ++ listed f xs

-- an octet as one item of a list
abbrev pub itself : ℕ → List ℕ
itself c = c ∷ []

-- a number, the lowest digit to the base 256 first
abbrev pub number_octets : ℕ → List ℕ
number_octets n = listed itself (reverse (digits_of 256 n))

-- a type and a key
abbrev pub pair_octets : TypeAndKey → List ℕ
pair_octets k = number_octets k.kind ++ listed itself k.key

-- A name's key: its relative names, root first, each with its types in rising order and their keys.
abbrev pub name_key : List (List TypeAndKey) → List ℕ
name_key name = listed (listed pair_octets) name

-- Names have one key exactly where they are one name (RFC 4517 4.2.15).
abbrev pub NameKeysAreOfNames : Type 0
NameKeysAreOfNames = (a b : List RdnModel) → (name_key (rdns a) ≡ name_key (rdns b)) ↔ IsSameName a b
