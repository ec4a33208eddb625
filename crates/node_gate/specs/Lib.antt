pub mod Identities
pub mod Shared
pub mod Sent
pub mod Batches
pub mod Moved
pub mod Starting
pub mod private
-- what layers above name of the crates below
pub use Rattle.dir_seats.specs as dir_seats
