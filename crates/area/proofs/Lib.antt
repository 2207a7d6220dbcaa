pub mod Cutting
pub mod Ordering
pub mod Tiled
pub mod Written
