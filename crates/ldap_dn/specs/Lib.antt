pub mod Meaning
pub mod Keyed
pub mod Names
pub mod Spellings
pub mod Tokens
pub mod Texts
pub mod Printed
pub mod Grammar
pub mod Parted
pub mod NameTexts
pub mod Rising
pub mod Ordered
pub mod OrderLaws
pub mod Digests
pub mod NameKeys
pub mod Pairs
pub mod private
-- what layers above name of the crates below
pub use Rattle.ldap_schema.specs.ldap_words as ldap_words
pub use Rattle.ldap_syntax.specs as ldap_syntax
pub use Rattle.ldap_schema.specs as ldap_schema
