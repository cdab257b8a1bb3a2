pub mod Places
pub mod Collected
pub mod Whole
