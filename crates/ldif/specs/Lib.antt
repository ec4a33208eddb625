pub mod Descriptions
pub mod Records
pub mod Written
pub mod Lines
pub mod Says
pub mod Reading
pub mod Faults
pub mod Placing
pub mod Content
pub mod RoundTrip
pub mod Adds
pub mod HexLines
pub mod Imports
pub mod Entries
pub mod Exports
pub mod private
-- what layers above name of the crates below
pub use Rattle.ldap_words.specs as ldap_words
pub use Rattle.ldap_msg.specs as ldap_msg
