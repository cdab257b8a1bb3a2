pub mod Owned
mod Worked
