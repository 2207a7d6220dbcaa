pub mod Readers
pub mod Plays
pub mod Openings
pub mod Written
pub mod Streamed
pub mod RoundTrips
