pub mod Responses
pub mod Rows
pub mod Session
pub mod Turns
pub mod Waiting
pub mod Rising
pub mod Taken
pub mod View
pub mod private
-- what layers above name of the crates below
pub use Rattle.request_checks.specs.ldap_ber as ldap_ber
pub use Rattle.request_checks.specs.ldap_msg as ldap_msg
pub use Rattle.request_checks.specs as request_checks
pub use Rattle.directory_api.specs as directory_api
