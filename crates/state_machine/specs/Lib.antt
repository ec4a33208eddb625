pub mod Executing
pub mod private
-- what layers above name of the crates below
pub use Rattle.dir_store.specs as dir_store
pub use Rattle.dir_store.specs.indexed_tree as indexed_tree
pub use Rattle.dir_store.specs.directory_api as directory_api
