pub mod Text
pub mod Times
pub mod Syntaxes
pub mod KeyOctets
pub mod Meaning
pub mod Parts
pub mod Keys
pub mod Forms
pub mod Styles
pub mod private
-- what layers above name of the crates below
pub use Rattle.ldap_words.specs as ldap_words
