pub mod Bounds
pub mod Crossing
pub mod Handling
pub mod Logging
pub mod Restarts
pub mod Returning
pub mod Starts
pub mod Views
