pub mod Chosen
pub mod Changing
