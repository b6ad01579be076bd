pub mod Kinds
pub mod Variables
pub mod Lists
pub mod Sizes
pub mod Limits
pub mod Assignments
pub mod Pairing
