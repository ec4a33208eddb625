pub mod Waiting
pub mod Reading
pub mod Claims
pub mod Greeting
pub mod Meeting
pub mod Past
pub mod Refusals
pub mod Saying
pub mod Terms
pub mod private
-- what layers above name of the crates below
pub use Rattle.vr_wire.specs as vr_wire
