pub mod File
pub mod Parts
pub mod Demand3
