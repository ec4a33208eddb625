pub mod Descriptions
pub mod Values
pub mod Items
pub mod Grammar
pub mod Faults
pub mod Longest
pub mod Refusals
pub mod private
-- what layers above name of the crates below
pub use Rattle.ldap_filter.specs as ldap_filter
pub use Rattle.ldap_words.specs as ldap_words
