pub mod Shown
pub mod Happening
pub mod Headline
pub mod private
