pub mod Directory
pub mod Holdings
pub mod Superiors
pub mod Kept
pub mod Placed
pub mod Digests
pub mod DigestLaws
pub mod private
-- what layers above name of the crates below
pub use Rattle.dir_entry.specs.ldap_schema as ldap_schema
pub use Rattle.dir_entry.specs.ldap_dn as ldap_dn
pub use Rattle.dir_entry.specs.ldap_match as ldap_match
pub use Rattle.dir_entry.specs as dir_entry
pub use Rattle.dir_entry.specs.shared_map as shared_map
