pub mod Signs
pub mod Tables
pub mod Writing
