pub mod Playing
pub mod Appending
pub mod Hearing
