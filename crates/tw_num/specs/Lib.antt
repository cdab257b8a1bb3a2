pub mod Elapsed
pub mod Interval
pub mod Clock
pub mod Rate
