pub mod Format
pub mod Reading
pub mod Exact
pub mod Seen
