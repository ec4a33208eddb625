-- What no public contract leads to: contracts of other functions, and proofs, speak of it. Who trusts the public ones
-- need not read it.
pub mod Guarded
pub mod Heads
pub mod Judged
pub mod Marks
pub mod Pieces
pub mod Within
