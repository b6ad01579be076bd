pub mod Rounds
pub mod Last
pub mod Copies
pub mod Alone
pub mod Entries
pub mod Least
