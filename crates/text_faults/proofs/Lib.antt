pub mod Written
pub mod Cuts
pub mod Utf8
pub mod Cutting
pub mod Escaping
