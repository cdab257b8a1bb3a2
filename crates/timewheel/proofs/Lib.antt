pub mod OneWord
mod Named
