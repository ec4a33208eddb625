-- A response without where it lies in memory (RFC 4511 4.5.2, 4.12); a text is its octets.
use Rattle.std.specs.Prelude.{ℕ, List, Option}
use Rattle.ldap_parts.specs.Values.{PartialAttributeValue, LdapResultValue}

-- SearchResultEntry (RFC 4511 4.5.2)
pub record SearchResultEntryValue : Type 0 where
  pub object_name : List ℕ
  pub attributes : List PartialAttributeValue

-- ExtendedResponse (RFC 4511 4.12)
pub record ExtendedResponseValue : Type 0 where
  pub result : LdapResultValue
  pub response_name : Option (List ℕ)
  pub response_value : Option (List ℕ)
