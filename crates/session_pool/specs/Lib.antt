pub mod Answering
pub mod Sittings
pub mod Refusing
pub mod Refused
