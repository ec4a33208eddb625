pub mod Keys
pub mod Fronts
pub mod Spelled
pub mod Unparted
pub mod Plain
pub mod Parted
pub mod NameTexts
pub mod Rising
pub mod KeysTold
pub mod KeysMade
pub use Rattle.ldap_schema.proofs.ldap_words as ldap_words
