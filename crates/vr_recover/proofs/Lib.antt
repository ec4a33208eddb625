pub mod Latest
pub mod Keeping
pub mod Joining
