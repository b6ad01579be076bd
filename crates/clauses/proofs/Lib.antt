pub mod Written
pub mod Impossible
pub mod Demand3
pub mod OwnCounts
