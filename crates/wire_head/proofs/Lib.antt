pub mod Taken
pub mod Zeros
pub mod Numbers
pub mod Written
pub mod Steps
pub mod Heads
