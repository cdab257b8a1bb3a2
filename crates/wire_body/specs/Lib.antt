pub mod Lists
pub mod Entries
pub mod Decisions
pub mod Votes
pub mod Reading
