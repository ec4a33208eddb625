pub mod Lists
pub mod Rule
pub mod Showing
pub mod Reads
pub mod private
-- what layers above name of the crates below
pub use Rattle.state_machine.specs as state_machine
pub use Rattle.dir_search.specs.directory_api as directory_api
