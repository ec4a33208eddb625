pub mod Editing
pub mod Naming
pub mod Opening
pub mod private
-- what layers above name of the crates below
pub use Rattle.dir_entry.specs.ldap_schema as ldap_schema
pub use Rattle.dir_entry.specs.ldap_dn as ldap_dn
pub use Rattle.dir_entry.specs as dir_entry
