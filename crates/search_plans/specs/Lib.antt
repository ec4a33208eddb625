pub mod Sets
pub mod Scopes
pub mod Walks
pub mod Streams
pub mod Runs
pub mod Bounds
pub mod Decided
pub mod Held
pub mod Planned
pub mod OctetRuns
pub mod private
-- what layers above name of the crates below
pub use Rattle.dir_index.specs.ldap_match as ldap_match
pub use Rattle.dir_index.specs.index_choice as index_choice
pub use Rattle.dir_index.specs as dir_index
pub use Rattle.ldap_eval.specs.ldap_filter as ldap_filter
pub use Rattle.ldap_eval.specs as ldap_eval
