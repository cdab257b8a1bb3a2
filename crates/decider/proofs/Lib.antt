pub mod Fits
pub mod Least
mod Worked
