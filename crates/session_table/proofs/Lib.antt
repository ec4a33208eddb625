pub mod Crossing
pub mod Laid
pub mod Lined
pub mod Noted
pub mod Oldest
pub mod Posted
pub mod Standing
pub mod Turned
