pub mod Loads
pub mod Counting
pub mod Tracing
pub mod Shown
