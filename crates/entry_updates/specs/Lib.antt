pub mod Adding
pub mod Finishing
pub mod Modifying
pub mod Touched
pub mod Refused
pub mod Classes
pub mod Structural
pub mod private
-- what layers above name of the crates below
pub use Rattle.ldap_op.specs.ldap_parts as ldap_parts
pub use Rattle.ldap_op.specs as ldap_op
