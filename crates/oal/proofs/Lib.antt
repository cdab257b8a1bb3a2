pub mod Missing
pub mod Newest
pub mod Standing
pub mod Growing
pub mod Marking
mod Worked
