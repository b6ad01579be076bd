pub mod Magnitudes
pub mod Writing
