pub mod Scopes
pub mod Selection
pub mod RootDse
pub mod Answer
pub mod Compared
pub mod Numbered
pub mod Looks
pub mod Counted
pub mod Evaluated
pub mod private
-- what layers above name of the crates below
pub use Rattle.indexed_tree.specs.directory_api.ldap_msg as ldap_msg
pub use Rattle.indexed_tree.specs.ldap_schema as ldap_schema
pub use Rattle.indexed_tree.specs.ldap_dn as ldap_dn
pub use Rattle.indexed_tree.specs.index_choice as index_choice
pub use Rattle.indexed_tree.specs.dir_tree as dir_tree
pub use Rattle.indexed_tree.specs as indexed_tree
pub use Rattle.indexed_tree.specs.directory_api as directory_api
