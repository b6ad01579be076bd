pub mod Ascii
pub mod Decimal
