pub mod Formulas
pub mod Gates
