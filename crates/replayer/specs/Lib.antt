pub mod Replay
pub mod Statuses
pub mod Answers
pub mod NextLine
pub mod RowRoom
pub mod Command
