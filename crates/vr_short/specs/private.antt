-- What no public contract leads to: contracts of other functions speak of it. Who trusts the public ones need not read
-- it.
pub mod Kinds
