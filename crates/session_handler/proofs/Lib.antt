pub mod Turning
pub mod Joining
pub mod Risen
pub mod EntryLists
pub mod Cutting
pub mod Waits
-- what layers above name of the crates below
pub use Rattle.directory_api.proofs as directory_api
