-- The one spelling of a field that is written: shortest lengths, no DEFAULT, TRUE as FF (RFC 4511 5.1).
use Rattle.std.specs.Prelude.{ℕ, Bool, true, false, List, [], ◌∷◌, Option, Some, None, pos}
use Rattle.std.specs.Str.{IsUtf8}
use Rattle.ldap_ber.specs.Element.{element_bytes}
use Rattle.ldap_ber.specs.Values.{integer_octets}
use Rattle.ldap_ber.specs.Rows.{row_bytes}

-- a number that is not below zero
abbrev pub number_bytes : ℕ → ℕ → List ℕ
number_bytes first n = element_bytes first (integer_octets (pos n))

-- a boolean
abbrev pub flag_octets : Bool → List ℕ
flag_octets true = 255 ∷ []
flag_octets false = 0 ∷ []

-- a boolean that is false where it is left out
abbrev pub flag_or_false_bytes : ℕ → Bool → List ℕ
flag_or_false_bytes first true = element_bytes first (255 ∷ [])
flag_or_false_bytes first false = []

-- an optional text or octet string
abbrev pub optional_bytes : ℕ → Option (List ℕ) → List ℕ
optional_bytes first (Some v) = element_bytes first v
optional_bytes first None = []

-- a row that is left out where it is empty
abbrev pub row_or_none_bytes : {V : Type 0} → (V → List ℕ) → ℕ → List V → List ℕ
row_or_none_bytes bytes first [] = []
row_or_none_bytes bytes first (v ∷ vs) = element_bytes first (row_bytes bytes (v ∷ vs))

-- each text of an optional field is UTF-8
abbrev pub IsTextOrNone : Option (List ℕ) → Type 0
IsTextOrNone (Some t) = IsUtf8 t
IsTextOrNone None = Unit {0}
