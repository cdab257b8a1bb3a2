pub mod Delays
mod Worked
