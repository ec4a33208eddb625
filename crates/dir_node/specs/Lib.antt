pub mod Faults
pub mod Handling
pub mod Logged
pub mod NodeState
pub mod Outcomes
pub mod Restarting
pub mod Returning
pub mod private
-- what layers above name of the crates below
pub use Rattle.state_machine.specs as state_machine
pub use Rattle.state_machine.specs.dir_store as dir_store
pub use Rattle.log_journal.specs as log_journal
pub use Rattle.view_store.specs as view_store
pub use Rattle.log_journal.specs.vr_recover as vr_recover
pub use Rattle.vr_state.specs as vr_state
