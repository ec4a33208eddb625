pub mod Apart
pub mod Batches
pub mod Fields
pub mod Found
pub mod Framed
pub mod Kept
pub mod Notes
pub mod Refused
pub mod Steps
pub mod Taken
pub mod Told
pub mod Views
pub mod private
-- what layers above name of the crates below
pub use Rattle.journal.specs as journal
pub use Rattle.vr_state.specs as vr_state
pub use Rattle.vr_recover.specs as vr_recover
