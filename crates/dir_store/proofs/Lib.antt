pub mod Others
pub mod Moves
pub mod Below
pub mod Joins
pub mod Placed
pub mod Rises
pub mod Spelled
pub mod Same
pub mod Crossing
-- what layers above name of the crates below
pub use Rattle.indexed_tree.proofs.log_entry as log_entry
