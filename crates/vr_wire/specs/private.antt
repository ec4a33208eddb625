-- What no public contract leads to: contracts of other functions, and proofs, speak of it. Who trusts the public ones
-- need not read it.
pub mod Cutting
pub mod Payloads
pub mod Fitting
pub mod Putting
pub mod Rows
pub mod Parts
pub mod Heap
pub mod Heading
pub mod Left
