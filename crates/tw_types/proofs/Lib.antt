pub mod Appended
pub mod Up
pub mod Lists
pub mod Delivered
mod Worked
mod FlagWorked
mod EachKind
mod WaitingWorked
mod LogsWorked
mod AppendingWorked
mod DeliveriesWorked
mod RingsWorked
