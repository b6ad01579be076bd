pub mod Lines
pub mod Totals
pub mod Demand2
