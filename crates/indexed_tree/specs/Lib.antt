pub mod Directory
pub mod Listed
pub mod Places
pub mod Replies
pub mod Stored
pub mod private
-- what layers above name of the crates below
pub use Rattle.directory_api.specs.ldap_msg as ldap_msg
pub use Rattle.dir_index.specs.ldap_schema as ldap_schema
pub use Rattle.dir_index.specs.ldap_dn as ldap_dn
pub use Rattle.dir_index.specs.ldap_match as ldap_match
pub use Rattle.dir_index.specs.dir_entry as dir_entry
pub use Rattle.dir_index.specs.index_choice as index_choice
pub use Rattle.dir_index.specs as dir_index
pub use Rattle.directory_api.specs.dir_tree as dir_tree
pub use Rattle.directory_api.specs as directory_api
