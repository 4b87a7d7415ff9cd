pub mod Steps
pub mod Isolation
pub mod Wider
pub mod Examples
pub mod Needed
pub mod Sharp
