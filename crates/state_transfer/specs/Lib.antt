pub mod Pieces
pub mod Incoming
pub mod Answers
pub mod Transfers
