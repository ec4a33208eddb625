pub mod Shown
pub mod Schedule
pub mod Headline
pub mod Exact
pub mod private
-- what layers above name of the crates below
pub use Rattle.vr_world.specs as vr_world
pub use Rattle.dir_search.specs as dir_search
pub use Rattle.state_machine.specs as state_machine
pub use Rattle.state_machine.specs.dir_store.ldap_op as ldap_op
pub use Rattle.vr_state.specs as vr_state
