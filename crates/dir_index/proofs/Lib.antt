mod Changed
pub mod Crossing
mod Keys
mod Listed
mod Lookups
mod Marking
mod Numbers
mod Ranged
mod Untouched
