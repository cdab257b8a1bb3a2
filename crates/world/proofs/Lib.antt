pub mod Bytes
pub mod Acts
pub mod Drift
pub mod Histories
pub mod Worlds
pub mod Columns
mod Premises
pub mod Starts
