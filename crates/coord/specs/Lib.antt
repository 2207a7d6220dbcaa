pub mod Hints
pub mod Axis
pub mod Layers
pub mod Piles
pub mod Reduced
pub mod Lawful
