pub mod Dues
pub mod Folds
-- what layers above name of the crates below
pub use Rattle.dir_store.proofs as dir_store
pub mod Crossing
