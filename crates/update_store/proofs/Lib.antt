pub mod Ids
pub mod Order
pub mod Rooms
pub mod Facts
