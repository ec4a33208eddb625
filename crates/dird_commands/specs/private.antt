-- What no public contract leads to: contracts of other functions, and proofs, speak of it. Who trusts the public ones
-- need not read it.
pub mod Opened
pub mod Texts
pub mod Checked
pub mod Undone
pub mod Replies
pub mod Played
