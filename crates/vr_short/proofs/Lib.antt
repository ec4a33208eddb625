pub mod Filled
pub mod Paired
