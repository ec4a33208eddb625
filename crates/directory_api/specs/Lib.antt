pub mod Answers
pub mod Clients
pub mod Talk
pub mod View
pub mod Pairs
pub mod Counting
pub mod Reading
pub mod Selection
pub mod Lent
pub mod FoundView
pub mod private
-- what layers above name of the crates below
pub use Rattle.ldap_msg.specs.ldap_requests as ldap_requests
pub use Rattle.ldap_op.specs as ldap_op
pub use Rattle.ldap_msg.specs as ldap_msg
pub use Rattle.dir_tree.specs as dir_tree
pub use Rattle.ldap_op.specs.log_entry as log_entry
