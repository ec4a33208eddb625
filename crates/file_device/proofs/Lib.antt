pub mod Copied
pub mod Crossing
pub mod Histories
