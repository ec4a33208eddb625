-- What no public contract leads to: contracts of other functions, and proofs, speak of it. Who trusts the public ones
-- need not read it.
pub mod Sets
pub mod Streams
pub mod Runs
pub mod Resolved
pub mod OctetRuns
pub mod Sides
