pub mod Spelled
pub mod Spaced
pub mod Described
pub mod Lined
pub use Rattle.ldap_words.proofs as ldap_words
