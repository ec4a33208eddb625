pub mod Written
pub mod Tables
pub mod Numbers
pub mod NumbersKept
pub mod OctetOrder
