pub mod Codes
pub mod Words
pub mod Fronts
pub mod Filters
pub mod Names
pub mod Scripts
pub mod private
