pub mod Weighed
pub mod Frames
pub mod Seen
pub mod OneReading
