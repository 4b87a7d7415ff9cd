pub mod View
pub mod Calls
pub mod Loads
pub mod Steps
