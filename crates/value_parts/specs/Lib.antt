pub mod Digests
pub mod Kept
pub mod KeptParts
pub mod private
pub mod Picked
pub mod Parts
pub mod Walked
