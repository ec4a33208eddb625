-- Fields at the front of octets.
use Rattle.std.specs.Prelude.{◌≡◌, ◌≢◌, ℕ, ◌<◌, List, [], ◌∷◌, ◌++◌, Bool, false, ◌⊎◌, ℤ, pos, Option, Some, None}
use Rattle.std.specs.Str.{IsUtf8}
use Rattle.ldap_ber.specs.Element.{IsElement}
use Rattle.ldap_ber.specs.Values.{IsInteger, IsBoolean}

-- An element of this first octet and content at the front, and the octets after it. An OCTET STRING is its content
-- (X.690 8.7).
pub record HasField (octets : List ℕ) (first : ℕ) (content rest : List ℕ) : Type 0 where
  pub spelling : List ℕ
  pub is_element : IsElement spelling first content
  pub parts : octets ≡ spelling ++ rest

-- One part after the other. A part is a relation of the octets that follow it.
pub record Seq (First : List ℕ → Type 0) (Next : List ℕ → Type 0) : Type 0 where
  pub rest : List ℕ
  pub first : First rest
  pub next : Next rest

-- An element of this first octet whose content is what In says, and the octets after it: a SEQUENCE, a SET, a tagged
-- type.
pub record HasPart (In : List ℕ → Type 0) (octets : List ℕ) (first : ℕ) (rest : List ℕ) : Type 0 where
  pub content : List ℕ
  pub field : HasField octets first content rest
  pub inside : In content

-- An LDAPString (RFC 4511 4.1.2): its content is UTF-8.
pub record HasText (octets : List ℕ) (first : ℕ) (t rest : List ℕ) : Type 0 where
  pub field : HasField octets first t rest
  pub text : IsUtf8 t

-- An INTEGER or ENUMERATED below a limit (X.690 8.3, 8.4).
pub record HasNumber (octets : List ℕ) (first limit n : ℕ) (rest : List ℕ) : Type 0 where
  pub content : List ℕ
  pub field : HasField octets first content rest
  pub number : IsInteger content (pos n)
  pub small : n < limit

-- An INTEGER of at most eight octets (X.690 8.3).
pub record HasInteger (octets : List ℕ) (first : ℕ) (z : ℤ) (rest : List ℕ) : Type 0 where
  pub content : List ℕ
  pub field : HasField octets first content rest
  pub number : IsInteger content z

-- A BOOLEAN (X.690 8.2).
pub record HasFlag (octets : List ℕ) (first : ℕ) (b : Bool) (rest : List ℕ) : Type 0 where
  pub content : List ℕ
  pub field : HasField octets first content rest
  pub flag : IsBoolean content b

-- No element of this first octet stands at the front.
abbrev pub BeginsOtherwise : List ℕ → ℕ → Type 0
BeginsOtherwise [] first = Unit {0}
BeginsOtherwise (a ∷ bs) first = a ≢ first

-- An OPTIONAL field (X.680 25.8): it is there with its value, or no element of its first octet is there.
abbrev pub Optional : {V : Type 0} → (V → List ℕ → List ℕ → Type 0) → ℕ → List ℕ → Option V → List ℕ → Type 0
Optional P first octets (Some v) rest = P v octets rest
Optional P first octets None rest = (octets ≡ rest) × BeginsOtherwise octets first

-- An OPTIONAL text.
abbrev pub HasTextOrNone : List ℕ → ℕ → Option (List ℕ) → List ℕ → Type 0
HasTextOrNone octets first o rest = Optional (λ t octets rest. HasText octets first t rest) first octets o rest

-- An OPTIONAL octet string.
abbrev pub HasOctetsOrNone : List ℕ → ℕ → Option (List ℕ) → List ℕ → Type 0
HasOctetsOrNone octets first o rest = Optional (λ v octets rest. HasField octets first v rest) first octets o rest

-- A BOOLEAN DEFAULT FALSE (X.680 25.11): where it is left out it is false.
abbrev pub HasFlagOrFalse : List ℕ → ℕ → Bool → List ℕ → Type 0
HasFlagOrFalse octets first b rest = HasFlag octets first b rest ⊎ ((b ≡ false) × (octets ≡ rest)
    × BeginsOtherwise octets first)
