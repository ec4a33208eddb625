pub mod HexLines
pub mod Causes
pub mod Placed
pub mod Values
pub mod Classes
pub mod Records
