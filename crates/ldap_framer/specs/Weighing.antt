-- What messages take in memory that are about to become whole. Octets come in; what is begun comes out.
use Rattle.std.specs.Prelude.{◌≡◌, ℕ, ◌+◌, ◌<◌, List, ◌++◌, length}
use Rattle.ldap_msg.specs.ldap_ber.Header.{IsHeader}

-- A header at the front states more octets, with its own, than there are with so many further ones.
pub record StatesMore (octets : List ℕ) (count : ℕ) : Type 0 where
  pub header : List ℕ
  pub first : ℕ
  pub n : ℕ
  pub rest : List ℕ
  pub is_header : IsHeader header first n
  pub whole : octets ≡ header ++ rest
  pub more : length octets + count < length header + n
