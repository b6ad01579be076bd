pub mod Example
pub mod SelfXor
