-- What no public contract leads to: contracts of other functions, and proofs, speak of it. Who trusts the public ones
-- need not read it.
pub mod Identities
pub mod Shared
pub mod Given
pub mod Handled
pub mod Batches
pub mod Waking
pub mod Driving
