pub mod Attended
pub mod Crossing
pub mod Rows
