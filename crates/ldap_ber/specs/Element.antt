-- Elements in definite form (X.690 8.1 as RFC 4511 5.1 narrows it).
use Rattle.std.specs.Prelude.{◌≡◌, ℕ, ◌+◌, ◌/◌, ◌%◌, ◌<◌, List, [], ◌∷◌, ◌++◌, length, if◌then◌else◌, nat_lt}
use Rattle.std.specs.List.{AllByRecursion}
use Rattle.ldap_ber.specs.Number.{number}

-- numbers below 256
abbrev pub AreOctets : List ℕ → Type 0
AreOctets bs = AllByRecursion (λ b. b < 256) bs

-- The octets that spell a length (X.690 8.1.3.4, 8.1.3.5; RFC 4511 5.1): the length alone, below 128, or how many
-- octets follow, from 129 to 132, and the length in those. Zeros in front are allowed, so a length has several
-- spellings.
abbrev pub IsLength : List ℕ → ℕ → Type 0
IsLength [] n = ⊥
IsLength (a ∷ []) n = (a < 128) × (n ≡ a)
IsLength (a ∷ b ∷ bs) n = (a ≡ 129 + length bs) × (a < 133) × AreOctets (b ∷ bs) × (n ≡ number (b ∷ bs))

-- An element (X.690 8.1.1): the identifier octet, whose low five bits are not all ones (X.690 8.1.2.2), the length and
-- the content.
pub record IsElement (octets : List ℕ) (first : ℕ) (content : List ℕ) : Type 0 where
  pub low_tag : first % 32 < 31
  pub len_octets : List ℕ
  pub len : IsLength len_octets (length content)
  pub whole : octets ≡ first ∷ len_octets ++ content

-- a proper front of an element, which more octets could complete
pub record IsFront (octets : List ℕ) : Type 0 where
  pub more : List ℕ
  pub some_more : 0 < length more
  pub element : List ℕ
  pub first : ℕ
  pub content : List ℕ
  pub is_element : IsElement element first content
  pub front : octets ++ more ≡ element

-- the shortest octets of a length below 2 ^ 32 (X.690 10.1)
abbrev pub length_octets : ℕ → List ℕ
length_octets n =
    if nat_lt n 128 then n ∷ []
    else (if nat_lt n 256 then 129 ∷ n ∷ []
    else (if nat_lt n 65536 then 130 ∷ n / 256 ∷ n % 256 ∷ []
    else (if nat_lt n 16777216 then 131 ∷ n / 65536 ∷ n / 256 % 256 ∷ n % 256 ∷ []
    else 132 ∷ n / 16777216 ∷ n / 65536 % 256 ∷ n / 256 % 256 ∷ n % 256 ∷ [])))

-- the one spelling that is written
abbrev pub element_bytes : ℕ → List ℕ → List ℕ
element_bytes first content = first ∷ length_octets (length content) ++ content
