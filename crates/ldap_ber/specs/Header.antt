-- The header of an element, before its content is there.
use Rattle.std.specs.Prelude.{◌≡◌, ℕ, ◌%◌, ◌<◌, List, ◌∷◌, ◌++◌, length}
use Rattle.ldap_ber.specs.declared.fault.BerFault.{BerFault}
use Rattle.ldap_ber.specs.declared.fault.BerFault.TheVariants.{HighTag, Short, Indefinite, LengthTooLong}
use Rattle.ldap_ber.specs.Element.{IsLength}
use Rattle.ldap_ber.specs.Reading.{IsFault}

-- The identifier octet and the length octets of an element with a content of n octets (X.690 8.1.2, 8.1.3).
pub record IsHeader (octets : List ℕ) (first n : ℕ) : Type 0 where
  pub low_tag : first % 32 < 31
  pub len_octets : List ℕ
  pub len : IsLength len_octets n
  pub whole : octets ≡ first ∷ len_octets

-- A proper front of a header, which more octets could complete.
pub record IsHeaderFront (octets : List ℕ) : Type 0 where
  pub more : List ℕ
  pub some_more : 0 < length more
  pub header : List ℕ
  pub first : ℕ
  pub n : ℕ
  pub is_header : IsHeader header first n
  pub front : octets ++ more ≡ header

-- What stands in the place of a header: as for an element, but content is not asked for.
abbrev pub IsHeaderFault : BerFault → List ℕ → Type 0
IsHeaderFault Short octets = IsHeaderFront octets
IsHeaderFault HighTag octets = IsFault HighTag octets
IsHeaderFault Indefinite octets = IsFault Indefinite octets
IsHeaderFault LengthTooLong octets = IsFault LengthTooLong octets
