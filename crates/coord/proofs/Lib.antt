pub mod Below
pub mod KeyPoints
