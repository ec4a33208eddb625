pub mod Choice
pub mod Texts
pub mod private
-- what layers above name of the crates below
pub use Rattle.dir_entry.specs as dir_entry
