-- Reads an element from the left, with the first fault that is met.
use Rattle.std.specs.Prelude.{◌≡◌, ℕ, ◌%◌, ◌<◌, List, [], ◌∷◌}
use Rattle.ldap_ber.specs.declared.fault.BerFault.{BerFault}
use Rattle.ldap_ber.specs.declared.fault.BerFault.TheVariants.{HighTag, Short, Indefinite, LengthTooLong}
use Rattle.ldap_ber.specs.Element.{IsFront}

-- What stands in the place of an element.
abbrev pub IsFault : BerFault → List ℕ → Type 0
IsFault Short octets = IsFront octets
IsFault HighTag (a ∷ bs) = a % 32 ≡ 31
IsFault Indefinite (a ∷ b ∷ bs) = (a % 32 < 31) × (b ≡ 128)
IsFault LengthTooLong (a ∷ b ∷ bs) = (a % 32 < 31) × (132 < b)
IsFault HighTag [] = ⊥
IsFault Indefinite [] = ⊥
IsFault Indefinite (a ∷ []) = ⊥
IsFault LengthTooLong [] = ⊥
IsFault LengthTooLong (a ∷ []) = ⊥
