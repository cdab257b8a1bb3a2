pub mod Greatest
pub mod Joining
pub mod Pushes
pub mod Rounds
pub mod Rooms
mod Worked
