pub mod WrittenBits
