pub mod Words
pub mod Wide
pub mod Fetches
pub mod Sizes
pub mod Outer
pub mod Plans
pub mod Changes
