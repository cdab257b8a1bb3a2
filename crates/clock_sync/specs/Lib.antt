pub mod Keys
pub mod KeptClock
pub mod StandsFor
