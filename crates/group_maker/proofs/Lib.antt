pub mod Ascending
pub mod Ranges
pub mod Fitting
pub mod Missing
pub mod FittingLog
pub mod Objected
mod Worked
