pub mod Cases
pub mod Moves
pub mod Theorem
pub mod Examples
pub mod Needed
pub mod Sharp
