pub mod Unique
pub mod Exits
pub mod Spelled
pub mod Binds
pub mod Compares
pub mod Extends
-- what layers above name of the crates below
pub use Rattle.ldap_filter.proofs.ldap_ber as ldap_ber
pub use Rattle.ldap_filter.proofs as ldap_filter
