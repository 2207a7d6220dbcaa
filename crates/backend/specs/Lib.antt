pub mod Anchors
pub mod Shapes
pub mod Marks
pub mod Devices
pub mod Passes
