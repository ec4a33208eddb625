-- What no public contract leads to: contracts of other functions, and proofs, speak of it. Who trusts the public ones
-- need not read it.
pub mod Machine
pub mod ItemScan
pub mod FilterScan
pub mod Scanning
pub mod Scanned
pub mod Cuts
pub mod Reads
