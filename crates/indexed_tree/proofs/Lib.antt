pub mod Lookups
pub mod Listed
pub mod Shown
pub mod Ranged
pub mod Crossing
-- what layers above name of the crates below
pub use Rattle.directory_api.proofs.log_entry as log_entry
