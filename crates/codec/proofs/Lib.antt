pub mod Firsts
pub mod Scans
pub mod Exactly
pub mod Parses
