pub mod Overwrite
pub mod Appending
pub mod LittleEndian
pub mod Standing
