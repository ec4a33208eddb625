pub mod Asking
pub mod Samples
pub mod Metrics
pub mod Pages
pub mod private
