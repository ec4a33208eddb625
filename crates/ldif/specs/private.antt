-- What no public contract leads to: contracts of other functions, and proofs, speak of it. Who trusts the public ones
-- need not read it.
pub mod Folding
pub mod Said
pub mod Faults
pub mod HexFaults
pub mod Imports
pub mod Adding
