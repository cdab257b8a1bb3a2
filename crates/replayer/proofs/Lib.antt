pub mod Sound
pub mod Decided
pub mod Verdicts
pub mod Tops
pub mod Replays
mod Premises
mod Commands
