pub mod Cuts
pub mod Each
pub mod Updates
pub mod Searches
pub mod Events
pub mod Words
pub mod Lines
pub mod Script
pub mod Played
pub mod private
-- what layers above name of the crates below
pub use Rattle.filter_text.specs.ldap_words as ldap_words
pub use Rattle.dir_lab.specs as dir_lab
