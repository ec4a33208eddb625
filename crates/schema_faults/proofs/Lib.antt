pub mod CutPieces
pub mod Ordering
pub mod Reaching
pub mod Again
pub mod Sentences
