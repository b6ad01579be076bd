pub mod KindRows
pub mod RunLiterals
