pub mod Walking
pub mod Renewing
