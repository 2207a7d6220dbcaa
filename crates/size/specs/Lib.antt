pub mod Answers
pub mod Refusals
pub mod Sizes
pub mod Relatives
pub mod Kinds
