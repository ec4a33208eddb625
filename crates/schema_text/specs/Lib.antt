pub mod Words
pub mod Tokens
pub mod Keywords
pub mod Arguments
pub mod Descriptions
pub mod Texts
pub mod Lines
pub mod Spelling
pub mod Grammar
-- what layers above name of the crates below
pub use Rattle.ldap_words.specs as ldap_words
