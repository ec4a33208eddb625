pub mod Given
pub mod Grows
pub mod Sent
pub mod Starts
pub mod BeatSent
pub mod Requests
pub mod Crossing
