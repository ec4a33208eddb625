-- Digests of octets.
use Rattle.std.specs.Prelude.{ℕ, List}
pub use Rattle.ldap_match.specs.ldap_dn.Digests.{digest_on}

-- the digest of octets
abbrev pub digest_of : List ℕ → ℕ
digest_of octets = digest_on 0 octets
