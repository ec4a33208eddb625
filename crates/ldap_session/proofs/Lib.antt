pub mod Written
pub mod Progressed
pub mod Worked
pub mod Served
pub mod Kept
pub mod Conversed
pub mod Counted
-- what layers above name of the crates below
pub use Rattle.session_handler.proofs.directory_api as directory_api
