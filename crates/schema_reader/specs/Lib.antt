pub mod BuiltIn
pub mod Described
pub mod Reading
pub mod private
-- what layers above name of the crates below
pub use Rattle.schema_meaning.specs.schema_text as schema_text
pub use Rattle.schema_meaning.specs as schema_meaning
