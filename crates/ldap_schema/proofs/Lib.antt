pub mod Steps
pub mod Filling
pub mod Called
pub mod Chains
pub mod Lineage
pub mod Sought
pub mod Indexed
pub mod Ordered
pub mod Ranked
pub use Rattle.ldap_words.proofs as ldap_words
