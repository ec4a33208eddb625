pub mod Settings
pub use Rattle.dir_entry.proofs as dir_entry
