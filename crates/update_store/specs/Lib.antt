pub mod Inside
pub mod Put
pub mod Stock
