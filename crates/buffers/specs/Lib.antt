pub mod Overwrite
pub mod LittleEndian
