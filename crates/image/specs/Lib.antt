pub mod Format
pub mod Reading
pub mod Law
pub mod Text
