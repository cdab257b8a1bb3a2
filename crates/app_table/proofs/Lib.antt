mod Worked
pub mod Contents
pub mod Maps
pub mod Found
pub mod Edits
pub mod Answered
pub mod Snapshots
