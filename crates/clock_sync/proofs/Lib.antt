pub mod Ends
pub mod Shared
pub mod Added
pub mod KeptClock
