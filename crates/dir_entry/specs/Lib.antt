pub mod Entry
pub mod private
pub mod Values
pub mod Adding
pub mod Compared
-- what layers above name of the crates below
pub use Rattle.value_parts.specs.Kept as Kept
pub use Rattle.value_parts.specs.Picked as Picked
pub use Rattle.value_parts.specs.Parts as Parts
pub use Rattle.ldap_match.specs.ldap_words as ldap_words
pub use Rattle.ldap_match.specs.ldap_syntax as ldap_syntax
pub use Rattle.ldap_match.specs.ldap_schema as ldap_schema
pub use Rattle.ldap_match.specs.ldap_dn as ldap_dn
pub use Rattle.ldap_match.specs as ldap_match
pub use Rattle.shared_map.specs as shared_map
