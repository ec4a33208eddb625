pub mod Latest
pub mod View
pub mod Local
pub mod Allows
pub mod Made
pub mod Added
pub mod Checked
pub mod Searched
pub mod Filled
pub mod Lines
pub mod Faults
pub mod Answered
pub mod private
-- what layers above name of the crates below
pub use Rattle.dir_store.specs.directory_api.ldap_requests as ldap_requests
pub use Rattle.dir_store.specs.directory_api.ldap_op as ldap_op
pub use Rattle.dir_store.specs.directory_api.ldap_msg as ldap_msg
pub use Rattle.dir_store.specs.ldap_schema as ldap_schema
pub use Rattle.dir_store.specs.ldap_dn as ldap_dn
pub use Rattle.dir_store.specs.index_choice as index_choice
pub use Rattle.dir_store.specs.indexed_tree as indexed_tree
pub use Rattle.dir_store.specs as dir_store
pub use Rattle.dir_store.specs.directory_api as directory_api
pub use Rattle.ldif.specs as ldif
pub use Rattle.ldap_session.specs.session_handler as session_handler
pub use Rattle.ldap_session.specs as ldap_session
