mod Buffer
pub mod Lines
mod Outboxes
mod Readers
