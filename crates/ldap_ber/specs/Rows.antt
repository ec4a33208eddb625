-- Fields of one kind, one after the other.
use Rattle.std.specs.Prelude.{◌≡◌, ◌⊎◌, ℕ, List, [], ◌∷◌, ◌++◌}
use Rattle.ldap_ber.specs.Fields.{HasField, HasText, HasPart, BeginsOtherwise, Seq}

-- The contents of a SEQUENCE OF or SET OF (X.690 8.10, 8.12): each value in its order, and nothing after the last.
abbrev pub AreRow : {V : Type 0} → (V → List ℕ → List ℕ → Type 0) → List V → List ℕ → Type 0
AreRow P [] content = content ≡ []
AreRow P (v ∷ vs) content = Seq (P v content) (AreRow P vs)

-- LDAPStrings, one after the other (RFC 4511 4.5.1: AttributeSelection; 4.1.10: Referral).
abbrev pub AreTexts : List (List ℕ) → List ℕ → Type 0
AreTexts ts content = AreRow (λ t octets rest. HasText octets 4 t rest) ts content

-- Octet strings, one after the other (RFC 4511 4.1.7: vals).
abbrev pub AreValues : List (List ℕ) → List ℕ → Type 0
AreValues vs content = AreRow (λ v octets rest. HasField octets 4 v rest) vs content

-- An OPTIONAL SEQUENCE OF: none and an empty one are one.
abbrev pub HasRowOrNone : {V : Type 0} → (V → List ℕ → List ℕ → Type 0) → List ℕ → ℕ → List V → List ℕ → Type 0
HasRowOrNone P octets first vs rest = HasPart (AreRow P vs) octets first rest ⊎ ((vs ≡ []) × (octets ≡ rest)
    × BeginsOtherwise octets first)

-- Whole elements of any kind, which end a SEQUENCE and are ignored (RFC 4511 4, the extensibility that "..." implies).
pub data AreElements : List ℕ → Type 0 where
  none : AreElements []
  more : {octets : List ℕ} → (first : ℕ) (content rest : List ℕ) → HasField octets first content rest →
      AreElements rest → AreElements octets

-- The spellings of a row's values, one after the other.
abbrev pub row_bytes : {V : Type 0} → (V → List ℕ) → List V → List ℕ
row_bytes bytes [] = []
row_bytes bytes (v ∷ vs) = bytes v ++ row_bytes bytes vs
