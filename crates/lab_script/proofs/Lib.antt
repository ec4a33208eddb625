pub mod Pairs
pub mod OneByOne
pub mod Pieces
pub mod NoText
pub mod Unique
mod Rows
pub mod Each
pub mod Lines
pub mod Refusals
pub mod Sizes
