pub mod Forgetting
pub mod Taken
pub mod Passing
pub mod Remembering
pub mod Spelling
