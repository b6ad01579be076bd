pub mod FormLaws
pub mod Encoding
pub mod Questions
pub mod Encoded
