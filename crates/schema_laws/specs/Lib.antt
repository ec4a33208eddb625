pub mod PrintedRead
pub mod Ruled
pub mod MeaningNames
pub mod Chains
pub mod FirstFaults
pub mod NamePairs
