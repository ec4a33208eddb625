pub mod Schema
pub mod Superclasses
pub mod ObjectClassType
pub mod Lines
pub mod Rules
pub mod private
-- what layers above name of the crates below
pub use Rattle.ldap_words.specs as ldap_words
