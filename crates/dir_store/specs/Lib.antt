pub mod Updates
pub mod Joins
pub mod Order
pub mod Placed
pub mod private
-- what layers above name of the crates below
pub use Rattle.entry_updates.specs.ldap_op.ldap_parts as ldap_parts
pub use Rattle.entry_updates.specs.ldap_op as ldap_op
pub use Rattle.indexed_tree.specs.ldap_schema as ldap_schema
pub use Rattle.indexed_tree.specs.ldap_dn as ldap_dn
pub use Rattle.indexed_tree.specs.ldap_match as ldap_match
pub use Rattle.indexed_tree.specs.dir_entry as dir_entry
pub use Rattle.indexed_tree.specs.index_choice as index_choice
pub use Rattle.indexed_tree.specs.dir_index as dir_index
pub use Rattle.indexed_tree.specs.dir_tree as dir_tree
pub use Rattle.indexed_tree.specs as indexed_tree
pub use Rattle.indexed_tree.specs.directory_api as directory_api
pub use Rattle.entry_updates.specs as entry_updates
