pub mod Calls
pub mod Happened
pub mod Runs
pub mod Texts
