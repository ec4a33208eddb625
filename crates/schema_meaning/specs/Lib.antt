pub mod Naming
pub mod Inheriting
pub mod Faults
pub mod private
-- what layers above name of the crates below
pub use Rattle.schema_text.specs.ldap_words as ldap_words
pub use Rattle.schema_text.specs as schema_text
