pub mod GateTables
pub mod RunTables
pub mod Gathering
pub mod OutputCounts
