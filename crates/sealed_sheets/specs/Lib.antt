pub mod Sealing
pub mod Demands
pub mod SelfXor
