pub mod Owed
pub mod Standing
pub mod Taken
pub mod Watched
pub mod Sums
