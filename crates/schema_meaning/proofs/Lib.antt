pub mod Ways
pub mod Before
pub mod Kept
pub mod Halved
pub mod Settling
pub mod Reaching
