pub mod Recent
pub mod StandsFor
pub mod Faults
