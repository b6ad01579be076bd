pub mod Naming
pub mod Keeping
pub mod Standing
pub mod Operands
pub mod Starting
