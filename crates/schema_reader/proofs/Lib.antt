pub mod AsText
pub mod Loops
pub mod LoopingTypes
pub mod FallingClasses
pub mod Judged
pub mod BuiltInText
