pub mod Sampled
pub mod Beginning
pub mod Reading
pub mod Replying
pub mod Playing
