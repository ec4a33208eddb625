pub mod Sample
pub mod Begun
pub mod Status
pub mod Undone
pub mod Played
pub mod private
