-- What no public contract leads to: contracts of other functions, and proofs, speak of it. Who trusts the public ones
-- need not read it.
pub mod Apart
pub mod Found
pub mod Framed
pub mod Light
pub mod Notes
pub mod Refused
pub mod Told
