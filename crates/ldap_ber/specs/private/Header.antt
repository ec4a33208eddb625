-- What contracts that aren't public say of it. What public contracts say is in specs/Header.
use Rattle.std.specs.Prelude.{ℕ, ◌-◌, ◌%◌, List, [], ◌∷◌, length, Result, Ok, Err, ◌==◌, if◌then◌else◌}
use Rattle.ldap_ber.specs.declared.fault.BerFault.{BerFault}
use Rattle.ldap_ber.specs.declared.fault.BerFault.TheVariants.{HighTag, Short}
use Rattle.ldap_ber.specs.private.Reading.{length_at}

-- The first octet beside a length that was read, and how many of the octets were read.
abbrev pub beside : ℕ → ℕ → Result (ℕ × List ℕ) BerFault → Result (ℕ × ℕ × ℕ) BerFault
beside a total (Ok x) = Ok (a, x.0, total - length x.1)
beside a total (Err f) = Err f

-- The first octet, the length and the count of octets of the header, read from the left.
abbrev pub header_at : List ℕ → Result (ℕ × ℕ × ℕ) BerFault
header_at [] = Err Short
header_at (a ∷ bs) = if a % 32 == 31 then Err HighTag else beside a (length (a ∷ bs)) (length_at bs)
