pub mod Addresses
pub mod Events
pub mod Inputs
pub mod Packets
pub mod Requests
pub mod Shown
