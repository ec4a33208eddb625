pub mod Conversing
pub mod Counting
pub mod Octets
pub mod Progress
pub mod Serving
pub mod Visits
pub mod Waiting
pub mod View
pub mod private
-- what layers above name of the crates below
pub use Rattle.session_handler.specs.ldap_msg as ldap_msg
pub use Rattle.ldap_framer.specs as ldap_framer
pub use Rattle.session_handler.specs.directory_api as directory_api
pub use Rattle.session_handler.specs as session_handler
