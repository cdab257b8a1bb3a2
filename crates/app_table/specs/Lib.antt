pub mod Machine
pub mod Table
pub mod Snapshots
pub mod Entries
pub mod TableLaws
pub mod Places
