pub mod Refusals
pub mod Records
pub mod Placed
pub mod Lists
pub mod Listed
pub mod Countdowns
