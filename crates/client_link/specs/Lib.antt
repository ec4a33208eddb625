pub mod Served
-- what layers above name of the crates below
pub use Rattle.ldap_session.specs.directory_api as directory_api
pub use Rattle.ldap_session.specs.session_handler as session_handler
pub use Rattle.ldap_session.specs as ldap_session
