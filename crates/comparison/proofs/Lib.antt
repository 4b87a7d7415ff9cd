pub mod Cases
pub mod Relative
