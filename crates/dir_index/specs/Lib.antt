pub mod Choices
pub mod ListKeys
pub mod Ordered
pub mod OrderLaws
pub mod Places
pub mod Postings
pub mod Stored
pub mod Whole
pub mod private
-- what layers above name of the crates below
pub use Rattle.index_choice.specs.dir_entry.ldap_schema as ldap_schema
pub use Rattle.index_choice.specs.dir_entry.ldap_dn as ldap_dn
pub use Rattle.index_choice.specs.dir_entry.ldap_match as ldap_match
pub use Rattle.index_choice.specs.dir_entry as dir_entry
pub use Rattle.index_choice.specs as index_choice
pub use Rattle.index_choice.specs.dir_entry.shared_map as shared_map
