pub mod Stream
pub mod Framed
pub mod View
pub mod Weighing
pub mod private
