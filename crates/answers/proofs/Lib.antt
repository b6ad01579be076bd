pub mod Answering
pub mod Calling
pub mod ToldToC
