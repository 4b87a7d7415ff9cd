pub mod Fetches
pub mod Places
pub mod Helds
pub mod Wides
