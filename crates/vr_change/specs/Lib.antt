pub mod Rules
pub mod private
