pub mod Sums
pub mod Charging
