pub mod System
pub mod UdpLink
