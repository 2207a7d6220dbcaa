pub mod Corners
pub mod Ends
pub mod Areas
pub mod Insets
pub mod Grids
pub mod Tilings
pub mod Breaks
pub mod Samples
