pub mod Unique
pub mod Exits
pub mod Spelled
pub mod UpdatesUnique
pub mod UpdateExits
pub mod UpdatesSpelled
pub mod Modifies
pub mod Names
pub mod ResponsesUnique
pub mod ResponseExits
pub mod ResponsesSpelled
-- what layers above name of the crates below
pub use Rattle.ldap_ber.proofs as ldap_ber
