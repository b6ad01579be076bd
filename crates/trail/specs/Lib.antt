pub mod Kinds
pub mod Trail
pub mod Runs
pub mod WellFormed
pub mod Repeats
pub mod Joining
pub mod Changing
