pub mod Matching
pub mod Matched
pub mod Value
pub mod Bound
pub mod Made
pub mod private
-- what layers above name of the crates below
pub use Rattle.ldap_filter.specs as ldap_filter
pub use Rattle.dir_entry.specs.ldap_words as ldap_words
pub use Rattle.dir_entry.specs.ldap_syntax as ldap_syntax
pub use Rattle.dir_entry.specs.ldap_match as ldap_match
pub use Rattle.dir_entry.specs as dir_entry
