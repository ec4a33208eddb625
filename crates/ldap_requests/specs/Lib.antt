pub mod Values
pub mod View
pub mod Grammar
pub mod Written
pub mod Limits
-- what layers above name of the crates below
pub use Rattle.ldap_filter.specs.ldap_ber as ldap_ber
pub use Rattle.ldap_filter.specs as ldap_filter
