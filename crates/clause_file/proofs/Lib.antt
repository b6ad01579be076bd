pub mod Parts
pub mod Written
pub mod Demand3
pub mod Example
