pub mod Bits
pub mod Levels
pub mod Banks
