pub mod Jobs
pub mod Turns
