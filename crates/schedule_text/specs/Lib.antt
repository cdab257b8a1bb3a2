pub mod Bytes
pub mod Fields
pub mod LineFields
pub mod Numbers
pub mod Puts
pub mod RowLines
