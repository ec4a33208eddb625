pub mod Crossing
pub mod Flipped
pub mod Picked
pub mod Wholes
pub mod Taken
pub mod Digests
