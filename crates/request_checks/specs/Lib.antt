pub mod Numbers
pub mod Controls
pub mod Binding
pub mod Requests
pub mod Messages
pub mod private
-- what layers above name of the crates below
pub use Rattle.ldap_msg.specs.ldap_ber as ldap_ber
pub use Rattle.ldap_msg.specs as ldap_msg
pub use Rattle.dir_entry.specs.ldap_schema as ldap_schema
pub use Rattle.dir_entry.specs.ldap_dn as ldap_dn
