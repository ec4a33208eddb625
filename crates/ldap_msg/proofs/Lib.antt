pub mod Choices
pub mod Unique
pub mod Exits
pub mod Whole
pub mod Spelled
pub mod Encoded
-- what layers above name of the crates below
pub use Rattle.ldap_requests.proofs.ldap_ber as ldap_ber
