pub mod Crossing
pub mod Keyed
pub mod Shown
pub mod Twice
pub mod Equivalents
pub use Rattle.ldap_match.proofs.ldap_words as ldap_words
pub use Rattle.ldap_match.proofs as ldap_match
pub use Rattle.shared_map.proofs as shared_map
