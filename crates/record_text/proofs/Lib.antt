pub mod Lines
pub mod ShownFacts
pub mod Written
