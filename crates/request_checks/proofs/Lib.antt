pub mod Colons
pub mod Given
