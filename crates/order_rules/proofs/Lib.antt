pub mod Lists
pub mod Unique
pub mod Longest
pub mod Shift
pub mod First
pub mod Fits
pub mod Grown
pub mod Computed
mod Worked
