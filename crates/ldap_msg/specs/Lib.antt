pub mod Messages
pub mod Kinds
pub mod View
pub mod Grammar
pub mod Written
pub mod Limits
pub mod HexLines
pub mod private
-- what layers above name of the crates below
pub use Rattle.ldap_requests.specs.ldap_ber as ldap_ber
pub use Rattle.ldap_parts.specs as ldap_parts
pub use Rattle.ldap_requests.specs as ldap_requests
