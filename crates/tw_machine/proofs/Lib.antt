pub mod Tables
pub mod Clocks
pub mod Decimals
pub mod Lines
pub mod LineNumbers
pub mod LineLaws
pub mod Started
pub mod Ends
pub mod Parts
pub mod Exclusions
pub mod Complete
pub mod Causes
pub mod Steps
pub mod Told
pub mod Applied
pub mod Meanings
mod Worked
mod GroupsWorked
mod HistoryWorked
mod Forged
mod EntriesWorked
mod SendsWorked
pub mod Untimely
pub mod LateOnes
mod Pinned
mod PinnedSteps
mod SendsScheduled
mod SendsHistory
mod DeliveriesScheduled
mod TablesWorked
mod TimeEdges
mod MayFollow
mod Decided
mod SafeTests
mod SafeWords
mod SafeTables
mod SafeLists
mod SafeDeliveries
mod Edges
mod RowWords
mod RowLines
mod RowFields
mod RowOnce
mod NodeWorked
