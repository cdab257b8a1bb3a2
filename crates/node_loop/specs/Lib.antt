pub mod Calls
pub mod Does
pub mod Events
pub mod Happened
pub mod Runs
pub mod Spool
pub mod Texts
