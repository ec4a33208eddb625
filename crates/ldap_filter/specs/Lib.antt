pub mod Item
pub mod Tree
pub mod ItemView
pub mod View
pub mod ItemGrammar
pub mod Grammar
pub mod Limits
pub mod private
-- what layers above name of the crates below
pub use Rattle.ldap_ber.specs as ldap_ber
