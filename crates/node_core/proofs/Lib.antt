pub mod Echoes
pub mod Refusals
pub mod Listing
pub mod Waits
pub mod Keeping
pub mod Uses
pub mod Fitting
pub mod Next
pub mod Entered
pub mod Drafts
pub mod Others
pub mod Steps
pub mod Concerns
pub mod InTurn
pub mod Marks
pub mod Machines
mod Worked
