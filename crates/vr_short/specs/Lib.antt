pub mod Short
pub mod Notes
pub mod Pairing
pub mod Laws
pub mod private
