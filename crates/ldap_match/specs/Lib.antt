pub mod Truth
pub mod Meaning
pub mod Parts
pub mod Item
pub mod Keyed
pub mod NameValues
pub mod private
-- what layers above name of the crates below
pub use Rattle.ldap_dn.specs.ldap_words as ldap_words
pub use Rattle.ldap_dn.specs.ldap_syntax as ldap_syntax
pub use Rattle.ldap_dn.specs.ldap_schema as ldap_schema
pub use Rattle.ldap_dn.specs as ldap_dn
